-- Each of the three is zero. Assumes nothing.
use mathlib.Core.Path.{ap, ap₂, ◌∙◌}
use Rattle.tables.specs.declared.cell.CellTable.{CellTable}
use Rattle.charts.specs.declared.pair.FirstCells.{FirstCells}
use Rattle.charts.proofs.pair.FirstCells.none.Goals as goal

abbrev cells : CellTable → CellTable → CellTable → FirstCells
cells x y z = record { first = x; second = y; third = z }

pub returns : goal.returns
returns c =
    ap₂ (λ (x y : CellTable). cells x y c.zero-3.result) c.zero.ensures
    c.zero-2.ensures ∙ ap (cells _ _) c.zero-3.ensures
