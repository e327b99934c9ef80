use mathlib.Core.Path.{◌≡◌}
use mathlib.Core.Bool.{Bool}
use mathlib.Core.List.{List}
use Prim.Native.Nat.{ℕ, ◌+◌, ◌*◌, ◌/◌, ◌%◌}
use Rattle.bits.specs.Numbers.{bit, number}
use Rattle.bits.specs.Sets.{spread}
use Rattle.bits.proofs.Filling.{Filled}
use Rattle.tables.specs.Table.{table_bit}
use Rattle.tables.proofs.aside.pack.Given as goal

abbrev pub over : List ℕ → ℕ → ℕ → ℕ → Bool
over t n mask v = table_bit t (spread n (bit mask) v)

abbrev pub invariant-loop-i : goal.invariant-loop-i
invariant-loop-i l =
    Filled 0 l.len (λ k. number 8 (λ j. over l.t l.n l.mask (k * 8 + j))) l.initial.byte-items l.byte-items l.i
    × ((l.i % 8 ≡ 0 → ⊥) → l.w ≡ number 64 (λ j. over l.t l.n l.mask (64 * (l.i / 8) + j)))
