use mathlib.Core.Path.{◌≡◌}
use Prim.Native.Nat.{◌+◌, ◌-◌, ◌*◌, ◌≤◌}
use Rattle.sheets.specs.Sheet.{cells_from, sheet_cells}
use Rattle.sheets.specs.Reading.{reads}
use Rattle.printing.proofs.printed.reads_in.Given as goal

abbrev pub invariant-loop-i : goal.invariant-loop-i
invariant-loop-i l =
    (l.c + reads l.x (cells_from l.e l.s l.i (l.m - l.i)) ≡ reads l.x (sheet_cells l.e l.s l.m))
    × (l.c ≤ 2 * l.i)
