use Prim.Native.Nat.{ℕ, ◌<◌}
use Rattle.bits.proofs.Walking.{Walked}
use Rattle.tables.specs.Table.{table_bit}
use Rattle.columns.specs.ByWords.{high_part}
use Rattle.columns.proofs.ByWords.{Even}
use Rattle.columns.proofs.columns.same_column.Given as goal

abbrev pub invariant-loop-v : goal.invariant-loop-v
invariant-loop-v l =
    Walked l.s.n (high_part l.s.free) l.s.words l.f l._v × ((u : ℕ) → u < l._v → Even l.s.n l.s.free (table_bit l.t) l.x l.y u)
