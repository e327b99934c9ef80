use mathlib.Core.Path.{◌≡◌}
use mathlib.Core.List.{List}
use Prim.Native.Nat.{ℕ, ◌+◌, ◌*◌, ◌^◌, ◌<◌}
use lib.ListN.{length}
use Rattle.bits.specs.Numbers.{bit}
use Rattle.sheets.specs.declared.kinds.Edition.{Edition}
use Rattle.sheets.specs.Sheet.{sheet_bit}
use Rattle.runs.specs.Words.{lane}
use Rattle.runs.proofs.Runs.{Ran}
use Rattle.runs.proofs.words.sheet_word.Given as goal

abbrev pub AllRan : Edition → ℕ → List ℕ → ℕ → ℕ → List ℕ → ℕ → ℕ → Type 0
AllRan e n s m w words o i = (j : ℕ) → j < 64 → 64 * w + j < 2 ^ n
    → Ran e s m (sheet_bit e n s m (64 * w + j)) n i (bit o j) (lane words j)

abbrev pub invariant-loop-i : goal.invariant-loop-i
invariant-loop-i l =
    (length l.words ≡ 32) × (length l.v ≡ 128)
    × AllRan l.e l.n l.s l.m l.w l.words l.o l.i
