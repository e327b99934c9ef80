use mathlib.Core.Path.{◌≡◌}
use mathlib.Core.Bool.{Bool, ◌&&◌}
use mathlib.Core.List.{List}
use Prim.Native.Nat.{ℕ, ◌+◌, ◌*◌, ◌^◌}
use lib.Dec.{ltb}
use Rattle.bits.specs.Numbers.{bit, number}
use Rattle.bits.specs.Sets.{size}
use Rattle.tables.specs.Table.{table_bit}
use Rattle.columns.specs.declared.split.Split.{Split}
use Rattle.splits.specs.Split.{reads_h}
use Rattle.splits.specs.Pair.{bit_h}
use Rattle.charts.proofs.pair.h_byte.Given as goal

-- bit j of byte i, of a table of `end` bits
abbrev pub H : List ℕ → Split → ℕ → ℕ → ℕ → Bool
H t s end i j =
    let x = i * 8 + j in
    ltb x end && bit_h s.n (table_bit t) (bit s.own) (bit s.shared) x

abbrev pub end : Split → ℕ → ℕ
end s limit = limit * 2 ^ size s.n (reads_h (bit s.own) (bit s.shared))

abbrev pub invariant-loop-j : goal.invariant-loop-j
invariant-loop-j l = l.b ≡ number l.j (H l.t l.s (end l.s l.limit) l.i)
