use Rattle.bits.proofs.Walking.{Walked}
use Rattle.tables.specs.Table.{table_bit}
use Rattle.witness.specs.Crowd.{Seen}
use Rattle.witness.proofs.crowd.seen.Given as goal

abbrev pub invariant-loop-v : goal.invariant-loop-v
invariant-loop-v l =
    Walked l.n l.w.own l.many l.x l._v × Seen l.n (table_bit l.t) l.w.own l.w.base l.w.e l.w.f l.r
