use mathlib.Core.Path.{◌≡◌}
use mathlib.Core.Bool.{Bool, true}
use mathlib.Core.List.{List}
use Prim.Native.Nat.{ℕ, ◌+◌}
use lib.Dec.{eqb}
use Rattle.bits.specs.Below.{every}
use Rattle.sheets.specs.declared.kinds.Edition.{Edition}
use Rattle.sheets.specs.Sheet.{sheet_cells}
use Rattle.sheets.specs.Reading.{reads}
use Rattle.printing.proofs.printed.once_read.Given as goal

abbrev pub once : Edition → ℕ → List ℕ → ℕ → ℕ → Bool
once e n s m i = eqb (reads (n + i) (sheet_cells e s m)) 1

abbrev pub invariant-loop-i : goal.invariant-loop-i
invariant-loop-i l = every l.i (once l.e l.n l.s l.m) ≡ true
