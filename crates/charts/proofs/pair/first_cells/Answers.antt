-- Each of the three by itself. Assumes nothing.
use mathlib.Core.Path.{ap, ap₂, ◌∙◌}
use Rattle.tables.specs.declared.cell.CellTable.{CellTable}
use Rattle.charts.specs.declared.pair.FirstCells.{FirstCells}
use Rattle.charts.proofs.pair.first_cells.Goals as goal

abbrev cells : CellTable → CellTable → CellTable → FirstCells
cells x y z = record { first = x; second = y; third = z }

pub returns : goal.returns
returns c =
    ap₂ (λ (x y : CellTable). cells x y c.table_or_zero-3.result) c.table_or_zero.ensures
    c.table_or_zero-2.ensures ∙ ap (cells _ _) c.table_or_zero-3.ensures
