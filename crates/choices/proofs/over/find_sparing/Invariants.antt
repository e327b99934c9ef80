use Rattle.tables.specs.Table.{table_bit}
use Rattle.choices.proofs.Choosing.{Chose}
use Rattle.choices.proofs.over.find_sparing.Given as goal

abbrev pub invariant-loop-r : goal.invariant-loop-r
invariant-loop-r l = Chose l.n l.k l.most l.low (table_bit l.t) l.kept l.r
