use mathlib.Core.Path.{◌≡◌}
use mathlib.Core.List.{◌++◌}
use Prim.Native.Nat.{◌^◌}
use Rattle.bits.specs.Numbers.{number}
use Rattle.tables.specs.Table.{table_bit}
use Rattle.sheets.specs.Held.{cells_of}
use Rattle.cofactors.specs.Cofactors.{cofactor_cells}
use Rattle.making.specs.Stage.{signals_of}
use Rattle.selectors.specs.Standing.{ahead, InRoom}
use Rattle.selectors.proofs.levels.cofactor_sheet.Given as goal

abbrev pub invariant-loop-stand : goal.invariant-loop-stand
invariant-loop-stand l =
    (cells_of l.stand.sheet ++ ahead l.k l.l l.stand ≡ cofactor_cells l.k l.n (signals_of l.l) (number (2 ^ l.l.count) (table_bit l.t)))
    × InRoom l.k l.l l.stand

abbrev pub decreases-loop-stand : goal.decreases-loop-stand
decreases-loop-stand l = l.stand.left
