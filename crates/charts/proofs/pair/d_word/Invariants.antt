use mathlib.Core.Path.{◌≡◌}
use mathlib.Core.Bool.{Bool}
use mathlib.Core.List.{List}
use Prim.Native.Nat.{ℕ, ◌+◌, ◌*◌}
use Rattle.bits.specs.Numbers.{bit, number}
use Rattle.bits.proofs.Walking.{Walked}
use Rattle.tables.specs.Table.{table_bit}
use Rattle.columns.specs.declared.split.Split.{Split}
use Rattle.charts.specs.Cells.{bit_d}
use Rattle.charts.proofs.pair.d_word.Given as goal

abbrev pub M : Split → ℕ
M s = s.own + s.shared

abbrev pub D : List ℕ → Split → ℕ → ℕ → Bool
D t s which = bit_d s.n (table_bit t) (bit s.own) (bit s.shared) which

abbrev pub invariant-loop-i : goal.invariant-loop-i
invariant-loop-i l =
    (l.r ≡ number l.i (λ j. D l.t l.s l.which (64 * l.w + j))) × Walked l.s.n (M l.s) l.many l.x (64 * l.w + l.i)
