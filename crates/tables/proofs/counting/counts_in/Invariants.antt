use Prim.Native.Nat.{ℕ, ◌+◌, ◌*◌, ◌<◌}
use Rattle.bits.specs.Numbers.{bit}
use Rattle.bits.specs.Sets.{spread}
use Rattle.bits.proofs.Walking.{Walked}
use Rattle.tables.specs.Table.{table_bit}
use Rattle.tables.specs.Words.{Steady}
use Rattle.tables.proofs.Changing.{Others}
use Rattle.tables.proofs.counting.counts_in.Given as goal

abbrev pub invariant-loop-v : goal.invariant-loop-v
invariant-loop-v l =
    Others l.n l.live l.j l.top l.others × Walked l.top l.others l.many l.w l._v
    × ((u : ℕ) → u < l._v → (i : ℕ) → i < 64 → Steady l.n (table_bit l.t) l.j (64 * spread l.top (bit l.others) u + i))
