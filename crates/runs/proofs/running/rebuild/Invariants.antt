use mathlib.Core.Path.{◌≡◌}
use mathlib.Core.Bool.{Bool, ◌&&◌}
use mathlib.Core.List.{List}
use Prim.Native.Nat.{ℕ, ◌+◌, ◌*◌, ◌/◌, ◌%◌, ◌^◌}
use lib.Dec.{ltb}
use lib.ListN.{length}
use Rattle.bits.specs.Numbers.{number}
use Rattle.bits.proofs.Filling.{Filled}
use Rattle.sheets.specs.declared.kinds.Edition.{Edition}
use Rattle.sheets.specs.Sheet.{sheet_bit}
use Rattle.runs.specs.Words.{sheet_word}
use Rattle.runs.proofs.running.rebuild.Given as goal

abbrev pub bits : Edition → ℕ → List ℕ → ℕ → ℕ → Bool
bits e n s m x = ltb x (2 ^ n) && sheet_bit e n s m x

abbrev pub invariant-loop-i : goal.invariant-loop-i
invariant-loop-i l =
    Filled 0 (length l.initial.out) (λ k. number 8 (λ j. bits l.e l.n l.s l.m (k * 8 + j))) l.initial.out l.out l.i
    × ((l.i % 8 ≡ 0 → ⊥) → l.o ≡ sheet_word l.e l.n l.s l.m (l.i / 8))
