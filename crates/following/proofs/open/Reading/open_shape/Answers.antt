-- `open_shape` meets its contract, shape by shape. Assumes nothing.
use mathlib.Core.Path.{ap, ◌∙◌}
use Rattle.bits.specs.Lists.{byte_at}
use Rattle.clauses.specs.Variables.{literal_of}
use Rattle.following.specs.Values.{seen, open_after}
use Rattle.following.proofs.open.Reading.open_shape.Goals as goal

pub returns-in-One : goal.returns-in-One
unfolding open_after
returns-in-One c = rw c.in-One.is c.see_named.ensures

pub returns-in-Two : goal.returns-in-Two
unfolding open_after
returns-in-Two c =
    rw c.in-Two.is (c.see_named-in-Two.ensures ∙ ap (seen (byte_at c.args.self.now.values.now) (literal_of c.args.self.now.task.size c.in-Two.b)) c.see_named-o.ensures)

pub returns-in-Three : goal.returns-in-Three
unfolding open_after
returns-in-Three c =
    rw c.in-Three.is (c.see_named-in-Three.ensures ∙ ap (seen (byte_at c.args.self.now.values.now) (literal_of c.args.self.now.task.size c.in-Three.d)) (c.see_named-o-in-Three-2.ensures ∙ ap (seen (byte_at c.args.self.now.values.now) (literal_of c.args.self.now.task.size c.in-Three.b)) c.see_named-o-in-Three.ensures))
