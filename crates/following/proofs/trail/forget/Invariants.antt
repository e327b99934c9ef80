use Rattle.following.proofs.Trailing.{Forgotten}
use Rattle.following.proofs.trail.forget.Given as goal

abbrev pub invariant-loop-e : goal.invariant-loop-e
invariant-loop-e l = Forgotten l.from l.e l.initial.work l.work
