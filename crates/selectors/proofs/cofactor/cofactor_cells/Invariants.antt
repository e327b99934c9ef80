use mathlib.Core.Path.{◌≡◌}
use Rattle.bits.specs.Lists.{list_of}
use Rattle.sheets.specs.Held.{cells_of}
use Rattle.making.specs.Stage.{signals_of}
use Rattle.selectors.specs.Standing.{part_cell}
use Rattle.selectors.proofs.cofactor.cofactor_cells.Given as goal

abbrev pub invariant-loop-v : goal.invariant-loop-v
invariant-loop-v l =
    (cells_of l.sheet ≡ list_of l.v (part_cell (signals_of l.read) l.t l.k))
    × (l.sheet.count ≡ l.v)
