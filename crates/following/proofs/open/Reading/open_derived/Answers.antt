-- The loop keeps what is open among the literals so far. Assumes nothing.
use mathlib.Core.Path.{refl, ap, ◌∙◌}
use Prim.Native.Nat.{ℕ}
use Rattle.bits.specs.Lists.{byte_at, list_of}
use Rattle.clauses.specs.Step.{literal_at}
use Rattle.following.specs.Values.{seen, open_after}
use Rattle.following.specs.declared.open.Open.TheVariants.{Nothing}
use Rattle.following.proofs.Opening.{open_next}
use Rattle.following.proofs.open.Reading.open_derived.Goals as goal

pub loop-k-init : goal.loop-k-init
unfolding list_of open_after
loop-k-init c = refl

pub loop-k-preserved : goal.loop-k-preserved
loop-k-preserved c =
    open_next (byte_at c.args.self.now.values.now) (literal_at c.args.self.now.task.certificate.now c.args.at) Nothing c.loop-k.k (c.see-o.ensures ∙ ap (λ (l : ℕ). seen (byte_at c.args.self.now.values.now) l c.loop-k.o) c.four_at.ensures.0) c.loop-k.invariant
