use Prim.Native.Nat.{ℕ}
use Rattle.bits.specs.Lists.{list_of}
use Rattle.charts.specs.declared.pair.FirstCells.{FirstCells}
use Rattle.charts.specs.Cells.{table_in}
use Rattle.sheets.specs.Network.{Cell}
use Rattle.chains.specs.Chain.{last_cell}
use Rattle.making.specs.declared.signals.Signals.{Signals}
use Rattle.making.specs.Stage.{signals_of}
use Rattle.making.specs.Pile.{Grown}
use Rattle.making.proofs.pile.Pile.with_first.Given as goal

-- first cell t
abbrev pub cell_of : Signals → FirstCells → ℕ → Cell
cell_of read d t = last_cell (signals_of read) (table_in d t)

abbrev pub invariant-loop-t : goal.invariant-loop-t
invariant-loop-t l = Grown l.fn.self (list_of l.t (cell_of l.fn.read l.fn.d)) l.pile
