use mathlib.Core.Path.{◌≡◌}
use mathlib.Core.Bool.{true}
use Rattle.bits.specs.Below.{every}
use lib.ListN.{length}
use Rattle.clauses.specs.Step.{hint_at}
use Rattle.following.specs.Standing.{begun_in}
use Rattle.following.proofs.following.are_earlier.Given as goal

abbrev pub invariant-loop-k : goal.invariant-loop-k
invariant-loop-k l =
    every l.k (λ j. begun_in l.all (length l.c) l.work (hint_at l.c l.at j)) ≡ true
