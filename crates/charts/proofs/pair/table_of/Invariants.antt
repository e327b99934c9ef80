use mathlib.Core.Path.{◌≡◌}
use mathlib.Core.List.{List}
use Prim.Native.Nat.{ℕ, ◌<◌}
use lib.ListN.{length, get_or}
use Rattle.bits.specs.Numbers.{bit}
use Rattle.bits.specs.Sets.{size}
use Rattle.tables.specs.Table.{table_bit}
use Rattle.tables.specs.Cells.{cell_words}
use Rattle.tables.specs.Words.{gate_word}
use Rattle.columns.specs.declared.split.Split.{Split}
use Rattle.charts.specs.Cells.{bit_d}
use Rattle.columns.specs.Reading.{first_reads}
use Rattle.charts.proofs.pair.table_of.Given as goal

-- word w of the table of first cell `which`
abbrev pub word : List ℕ → Split → ℕ → ℕ → ℕ
word t s which = gate_word (size s.n (first_reads s)) (bit_d s.n (table_bit t) (bit s.own) (bit s.shared) which)

abbrev pub invariant-loop-w : goal.invariant-loop-w
invariant-loop-w l =
    (length l.words ≡ cell_words) × ((j : ℕ) → j < l.w → word l.t l.s l.which j ≡ get_or l.words j 0)
