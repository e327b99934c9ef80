use mathlib.Core.Path.{◌≡◌}
use Prim.Native.Nat.{◌^◌}
use lib.ListN.{length}
use Rattle.bits.specs.Numbers.{number}
use Rattle.chains.specs.Chain.{chain}
use Rattle.making.specs.Stage.{signals_of}
use Rattle.making.specs.Area.{at_hand}
use Rattle.making.proofs.Following.{Underway}
use Rattle.making.proofs.chaining.follow.Given as goal

abbrev pub invariant-loop-stage : goal.invariant-loop-stage
invariant-loop-stage l =
    Underway l.n l.most l.k (chain l.most l.n l.k l.n (signals_of l.fn.start) (number (2 ^ l.fn.start.count) (at_hand l.initial.work))) l.stage l.work × (length l.work ≡ length l.initial.work)

abbrev pub decreases-loop-stage : goal.decreases-loop-stage
decreases-loop-stage l = l.stage.signals.count
