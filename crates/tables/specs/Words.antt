-- Tables 64 assignments at a time.
use Rattle.std.specs.Prelude.{◌≡◌, Bool, true, false, not, ◌&&◌, List, ℕ, ◌+◌, ◌-◌, ◌*◌, ◌/◌, ◌^◌, ◌<◌, ◌≤◌, ltb, length}
use Rattle.std.specs.Prelude.{Option, Some, None}
use Rattle.bits.specs.Numbers.{bit, number}
use Rattle.tables.specs.Table.{table_bit}
use Rattle.tables.specs.Counting.{Sees, counts}

-- word w of a table: its bits at the 64 assignments from 64 w on, 0 past its end
abbrev pub table_word : List ℕ → ℕ → ℕ
table_word t w = number 64 (λ i. table_bit t (64 * w + i))

-- the word of the assignment p lies in the table: its eight bytes, or, of a shorter table, all there are
pub record WordAt (t : List ℕ) (p : ℕ) : Type 0 where
  pub long : 8 ≤ length t → 8 * (p / 64) + 8 ≤ length t
  pub short : length t < 8 → p < 64

-- word w of the table of n inputs, 0 from 2 ^ n on
abbrev pub gate_word : ℕ → (ℕ → Bool) → ℕ → ℕ
gate_word n F w = number 64 (λ i. ltb (64 * w + i) (2 ^ n) && F (64 * w + i))

-- a word that has 1 where input j is 0, for an input that changes within a word
abbrev pub LowerHalf : ℕ → ℕ → Type 0
LowerHalf j m = j < 6 → (i : ℕ) → i < 64 → bit m i ≡ not (bit i j)

-- that word of an input below 6; an input from 6 on has none
abbrev pub HalfWord : ℕ → Option ℕ → Type 0
HalfWord j (Some m) = (j < 6) × LowerHalf j m
HalfWord j None = 6 ≤ j

-- w numbers a word, and input j is 0 there if it is one of those that number words
pub record WordWithout (n j w : ℕ) : Type 0 where
  pub below : w < 2 ^ (n - 6)
  pub off : 6 ≤ j → bit w (j - 6) ≡ false

-- the bit at x does not change as input j is set
abbrev pub Steady : ℕ → (ℕ → Bool) → ℕ → ℕ → Type 0
Steady n F j x = x < 2 ^ n → bit x j ≡ false → F x ≡ F (x + 2 ^ j)

-- what comparing word w says: that input j counts, or that no bit of the word changes as it is set
pub record Compared (n : ℕ) (F : ℕ → Bool) (j w : ℕ) (r : Bool) : Type 0 where
  pub changes : r ≡ true → counts n F j ≡ true
  pub steady : r ≡ false → (i : ℕ) → i < 64 → Steady n F j (64 * w + i)

-- F sees the inputs of a mask alone, and j is one of them
pub record Live (n : ℕ) (F : ℕ → Bool) (live j : ℕ) : Type 0 where
  pub below : live < 2 ^ n
  pub sees : Sees n F (bit live)
  pub member : bit live j ≡ true
