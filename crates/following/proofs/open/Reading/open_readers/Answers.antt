-- The loop keeps what is open among the readers so far. Assumes nothing.
use mathlib.Core.Path.{refl}
use Prim.Native.Nat.{◌+◌}
use Rattle.bits.specs.Lists.{byte_at, list_of}
use Rattle.clauses.specs.declared.variables.Variable.TheVariants.{Reads}
use Rattle.clauses.specs.declared.variables.Literal.TheVariants.{Said}
use Rattle.clauses.specs.Variables.{literal_of}
use Rattle.following.specs.Values.{open_after}
use Rattle.following.specs.declared.open.Open.TheVariants.{Nothing}
use Rattle.following.proofs.Opening.{open_more}
use Rattle.following.proofs.open.Reading.open_readers.Goals as goal

pub loop-k-init : goal.loop-k-init
unfolding list_of open_after
loop-k-init c = refl

pub loop-k-preserved : goal.loop-k-preserved
loop-k-preserved c =
    open_more (byte_at c.args.self.now.values.now) (literal_of c.args.self.now.task.size) (λ k. Said (Reads (c.args.i + 1 + k) (c.args.self.now.task.size.inputs + c.args.i))) Nothing c.loop-k.k c.see_named-o.ensures c.loop-k.invariant
