use mathlib.Core.Path.{◌≡◌}
use mathlib.Core.Bool.{Bool, ◌&&◌}
use mathlib.Core.List.{List}
use Prim.Native.Nat.{ℕ, ◌+◌, ◌*◌, ◌/◌, ◌%◌, ◌^◌}
use lib.Dec.{ltb}
use lib.ListN.{length}
use Rattle.bits.specs.Numbers.{number}
use Rattle.bits.proofs.Filling.{Filled}
use Rattle.formulas.specs.Reading.{text_of, value_in}
use Rattle.values.specs.Stretches.{stretch_of}
use Rattle.formulas.proofs.read_formula.fill.Given as goal

abbrev pub bits : ℕ → List ℕ → ℕ → Bool
bits n t x = ltb x (2 ^ n) && value_in (text_of n t) x

abbrev pub invariant-loop-i : goal.invariant-loop-i
invariant-loop-i l =
    Filled 0 (length l.initial.table) (λ k. number 8 (λ j. bits l.n l.t (k * 8 + j))) l.initial.table l.table l.i
    × ((l.i % 32 ≡ 0 → ⊥) → l.v ≡ stretch_of (value_in (text_of l.n l.t)) (l.i / 32))
