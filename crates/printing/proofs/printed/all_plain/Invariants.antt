use mathlib.Core.Path.{◌≡◌}
use Prim.Native.Nat.{◌-◌}
use Rattle.sheets.specs.Sheet.{cells_from, sheet_cells}
use Rattle.printing.specs.Printable.{all_plain}
use Rattle.printing.proofs.printed.all_plain.Given as goal

abbrev pub invariant-loop-i : goal.invariant-loop-i
invariant-loop-i l =
    all_plain (cells_from l.e l.s l.i (l.m - l.i)) ≡ all_plain (sheet_cells l.e l.s l.m)
