use Rattle.bits.specs.Numbers.{bit}
use Rattle.bits.specs.Sets.{gather}
use Rattle.bits.proofs.Walking.{Walked}
use Rattle.tables.specs.Table.{table_bit}
use Rattle.columns.proofs.Looking.{SoFar}
use Rattle.columns.proofs.columns.look_through.Given as goal

abbrev pub invariant-loop-a : goal.invariant-loop-a
invariant-loop-a l =
    SoFar l.s (table_bit l.t) (gather l.s.n (bit l.s.shared) l.base) l.limit l.initial.seen l.seen l.k l._a
    × Walked l.s.n l.s.own l._a-end l.z l._a
