use mathlib.Core.Path.{◌≡◌}
use mathlib.Core.Bool.{Bool, ◌&&◌}
use mathlib.Core.List.{List, ◌++◌}
use Prim.Native.Nat.{ℕ, ◌^◌}
use lib.Dec.{ltb}
use lib.ListN.{length, drop}
use Rattle.bits.specs.Numbers.{bit}
use Rattle.tables.specs.Table.{table_bit, bytes_of}
use Rattle.columns.specs.declared.split.Split.{Split}
use Rattle.splits.specs.Pair.{inputs_h, bit_h}
use Rattle.splitting.proofs.filling.store_h.Given as goal

-- H's bits, spare bits zero
abbrev pub bits : List ℕ → Split → ℕ → ℕ → Bool
bits t s r x =
    ltb x (2 ^ inputs_h s.n (table_bit t) (bit s.own) (bit s.shared) r)
    && bit_h s.n (table_bit t) (bit s.own) (bit s.shared) x

abbrev pub invariant-loop-i : goal.invariant-loop-i
invariant-loop-i l =
    (length l.room ≡ length l.initial.room)
    × (l.room ≡ bytes_of l.i (bits l.t l.s l.r) ++ drop l.i l.initial.room)
