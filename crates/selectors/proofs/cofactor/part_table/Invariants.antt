use mathlib.Core.Path.{◌≡◌}
use mathlib.Core.List.{List}
use Prim.Native.Nat.{ℕ, ◌<◌}
use lib.ListN.{length, get_or}
use Rattle.tables.specs.Cells.{cell_words}
use Rattle.tables.specs.Words.{gate_word}
use Rattle.selectors.specs.Standing.{part_bit}
use Rattle.selectors.proofs.cofactor.part_table.Given as goal

-- word w of part v
abbrev pub word : List ℕ → ℕ → ℕ → ℕ → ℕ
word t k v = gate_word k (part_bit t k v)

abbrev pub invariant-loop-w : goal.invariant-loop-w
invariant-loop-w l =
    (length l.words ≡ cell_words) × ((j : ℕ) → j < l.w → word l.t l.k l.v j ≡ get_or l.words j 0)
