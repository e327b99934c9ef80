use Rattle.tables.specs.Table.{table_bit}
use Rattle.known.specs.Notes.{BadPairs}
use Rattle.known.proofs.pairs.fill.Given as goal

abbrev pub invariant-loop-i : goal.invariant-loop-i
invariant-loop-i l = BadPairs l.n (table_bit l.t) 2 l.pairs

abbrev pub invariant-loop-j : goal.invariant-loop-j
invariant-loop-j l = BadPairs l.n (table_bit l.t) 2 l.pairs
