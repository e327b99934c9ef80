use mathlib.Core.Path.{◌≡◌}
use Prim.Native.Nat.{◌^◌}
use mathlib.Core.Bool.{true}
use lib.Dec.{ltb}
use Rattle.bits.specs.Below.{every}
use Rattle.clauses.specs.Step.{row_at}
use Rattle.refuting.proofs.header.rows_below.Given as goal

abbrev pub invariant-loop-a : goal.invariant-loop-a
invariant-loop-a l = every l.a (λ j. ltb (row_at l.c j) (2 ^ l.n)) ≡ true
