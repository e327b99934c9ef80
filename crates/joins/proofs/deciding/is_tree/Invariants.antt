use Rattle.tables.specs.Table.{table_bit}
use Rattle.joins.specs.Left.{Reduced, DecidedFrom}
use Rattle.joins.proofs.deciding.is_tree.Given as goal

abbrev pub invariant-loop-j : goal.invariant-loop-j
invariant-loop-j l = Reduced l.n (table_bit l.t) l.g × DecidedFrom l.n l.g l.j
