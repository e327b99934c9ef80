-- The table of a first cell as it is held is the table as a number, for cells of up to eight inputs. Assumes nothing.
use mathlib.Core.Path.{◌≡◌}
use mathlib.Core.Bool.{Bool}
use Prim.Native.Nat.{ℕ, ◌≤◌}
use native.Mathlib.Omega.{arith}
use lib.Pow.{pow_mono}
use Rattle.bits.specs.Sets.{size}
use Rattle.tables.specs.Cells.{cell_words, table_number}
use Rattle.tables.proofs.CellTables.{words_joined}
use Rattle.splits.specs.Split.{reads_d}
use Rattle.splits.specs.Pair.{table_d}
use Rattle.charts.specs.Cells.{bit_d, held_d}

pub table-D : (n : ℕ) (F : ℕ → Bool) (A B : ℕ → Bool) (t : ℕ) → size n (reads_d A B) ≤ 8
    → table_number (held_d n F A B t) ≡ table_d n F A B t
unfolding table_d
table-D n F A B t h =
    words_joined cell_words (size n (reads_d A B)) (bit_d n F A B t)
    (omega (arith, pow_mono {i = size n (reads_d A B)} {j = 8} h))
