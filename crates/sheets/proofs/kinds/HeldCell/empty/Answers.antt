-- `HeldCell::empty` meets its contract. Assumes nothing.
use mathlib.Core.Path.{ap}
use lib.ListN.{replicate}
use Rattle.tables.specs.declared.cell.CellTable.{CellTable}
use Rattle.sheets.specs.declared.kinds.HeldCell.{HeldCell}
use Rattle.sheets.specs.Edition.{largest_cell, unused_place}
use Rattle.sheets.proofs.kinds.HeldCell.empty.Goals as goal

abbrev unused : CellTable → HeldCell
unused t = record { k = 0; signals = replicate largest_cell unused_place; table = t }

pub returns : goal.returns
returns c = ap (λ (t : CellTable). unused t) c.zero.ensures
