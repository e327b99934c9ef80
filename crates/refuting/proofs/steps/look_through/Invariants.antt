use mathlib.Core.Path.{◌≡◌}
use Prim.Native.Nat.{◌-◌}
use lib.ListN.{length}
use Rattle.clauses.specs.Variables.{variables}
use Rattle.clauses.specs.Asking.{question_of}
use Rattle.following.specs.Standing.{begun_in, IsReady}
use Rattle.refuting.proofs.Walking.{From}
use Rattle.refuting.proofs.steps.look_through.Given as goal

abbrev pub invariant-loop-at : goal.invariant-loop-at
invariant-loop-at l =
    IsReady l.task l.work × (length l.work ≡ length l.initial.work)
    × From (question_of l.task) l.c l.at (begun_in (variables l.task.size) (length l.c) l.work) l.empty

abbrev pub decreases-loop-at : goal.decreases-loop-at
decreases-loop-at l = length l.c - l.at
