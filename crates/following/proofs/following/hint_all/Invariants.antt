use mathlib.Core.Path.{◌≡◌}
use Prim.Native.Nat.{ℕ, ◌+◌, ◌≤◌}
use lib.ListN.{length}
use mathlib.Core.List.{List}
use Rattle.clauses.specs.Variables.{variables}
use Rattle.clauses.specs.Asking.{clause_of}
use Rattle.clauses.specs.Step.{hint_at}
use Rattle.following.specs.Following.{Following, used}
use Rattle.following.specs.Standing.{Stands}
use Rattle.following.proofs.following.hint_all.Given as goal

abbrev pub invariant-loop-k : goal.invariant-loop-k
invariant-loop-k l =
    (l.r.set ≤ l.initial.r.set + l.k) × (length l.work ≡ length l.initial.work)
    × ((before : List ℕ) (f : Following) → Stands (variables l.task.size) l.from before f l.initial.work l.initial.r → Stands (variables l.task.size) l.from before
    (used (λ j. clause_of l.task (hint_at l.task.certificate.now l.at j)) f l.k) l.work l.r)
