use Prim.Native.Nat.{◌≤◌}
use Rattle.clauses.specs.Step.{literal_at}
use Rattle.following.specs.Following.{denied}
use Rattle.following.specs.Standing.{Stands}
use Rattle.following.proofs.following.deny_all.Given as goal

abbrev pub invariant-loop-k : goal.invariant-loop-k
invariant-loop-k l =
    (l.r.set ≤ l.k) × Stands l.all l.from l.initial.work (denied (literal_at l.c l.at) l.k) l.work l.r
