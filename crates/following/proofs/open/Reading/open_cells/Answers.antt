-- The loop keeps what is open among the cells so far. Assumes nothing.
use mathlib.Core.Path.{refl}
use Rattle.bits.specs.Lists.{byte_at, list_of}
use Rattle.clauses.specs.declared.variables.Variable.TheVariants.{Apart}
use Rattle.clauses.specs.declared.variables.Literal.TheVariants.{Said}
use Rattle.clauses.specs.Variables.{literal_of}
use Rattle.following.specs.Values.{open_after}
use Rattle.following.proofs.Opening.{open_more}
use Rattle.following.proofs.open.Reading.open_cells.Goals as goal

pub loop-j-init : goal.loop-j-init
unfolding list_of open_after
loop-j-init c = refl

pub loop-j-preserved : goal.loop-j-preserved
loop-j-preserved c =
    open_more (byte_at c.args.self.now.values.now) (literal_of c.args.self.now.task.size) (λ j. Said (Apart c.args.i j c.args.a c.args.b)) c.args.start c.loop-j.j c.see_named-o.ensures c.loop-j.invariant
