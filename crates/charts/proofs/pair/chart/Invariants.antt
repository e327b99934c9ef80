use Rattle.bits.proofs.Walking.{Walked}
use Rattle.tables.specs.Table.{table_bit}
use Rattle.charts.proofs.Charts.{Charted}
use Rattle.charts.proofs.pair.chart.Given as goal

abbrev pub invariant-loop-b : goal.invariant-loop-b
invariant-loop-b l =
    Charted l.s (table_bit l.t) l.limit l.initial.seen l.seen l.b × Walked l.s.n l.s.shared l.b-end l.base l.b
