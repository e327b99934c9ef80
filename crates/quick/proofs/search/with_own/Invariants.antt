use Rattle.std.proofs.Common.{◌+◌}
use Rattle.tables.specs.Table.{table_bit}
use Rattle.best.specs.Search.{of_sizes}
use Rattle.best.proofs.First.{NoneYet}
use Rattle.walks.specs.Known.{Known}
use Rattle.quick.proofs.search.with_own.Given as goal

abbrev pub invariant-loop-q : goal.invariant-loop-q
invariant-loop-q l =
    NoneYet (l.most + 1) (of_sizes l.n l.r (table_bit l.t) l.p) l.q × Known l.n l.r l.t l.notes
