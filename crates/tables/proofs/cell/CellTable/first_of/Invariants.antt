use Rattle.bits.proofs.Filling.{Filled}
use Rattle.tables.specs.Table.{table_bit}
use Rattle.tables.specs.Words.{gate_word}
use Rattle.tables.proofs.cell.CellTable.first_of.Given as goal

abbrev pub invariant-loop-w : goal.invariant-loop-w
invariant-loop-w l = Filled 0 l.held (gate_word l.k (table_bit l.t)) l.initial.word-items l.word-items l.w
