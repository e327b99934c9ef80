use Rattle.std.proofs.Common.{◌+◌, ◌-◌}
use Rattle.tables.specs.Table.{table_bit}
use Rattle.best.specs.Search.{first, of_sizes}
use Rattle.best.proofs.First.{NoneYet}
use Rattle.walks.specs.Known.{Known}
use Rattle.quick.proofs.search.walk_all.Given as goal

abbrev pub invariant-loop-i : goal.invariant-loop-i
invariant-loop-i l =
    NoneYet (l.k - l.low) (λ j. first (j + 1) (of_sizes l.n l.r (table_bit l.t) (l.k - j)))
    l.i × Known l.n l.r l.t l.notes
