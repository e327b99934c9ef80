use mathlib.Core.Path.{◌≡◌}
use Prim.Native.Nat.{◌/◌}
use mathlib.Core.Bool.{true}
use Rattle.bits.specs.Below.{every}
use lib.Dec.{ltb}
use Rattle.clauses.specs.Step.{literal_at}
use Rattle.following.proofs.following.are_named.Given as goal

abbrev pub invariant-loop-k : goal.invariant-loop-k
invariant-loop-k l = every l.k (λ j. ltb (literal_at l.c l.at j / 2) l.all) ≡ true
