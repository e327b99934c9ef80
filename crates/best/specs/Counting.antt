-- The best split over the inputs that count, in the caller's positions.
use Rattle.std.specs.Prelude.{Bool, ℕ}
use Rattle.bits.specs.Numbers.{bit}
use Rattle.bits.specs.Sets.{size, spread}
use Rattle.tables.specs.Counting.{Counting, support, table_over}
use Rattle.splits.specs.Split.{reads_d, Possible}
use Rattle.best.specs.Best.{Candidate, Ahead}
use Rattle.best.specs.Search.{Answer, none, split, best}

-- a possible candidate whose members all count, and that comes before every other
pub record BestCounting (n K r : ℕ) (F : ℕ → Bool) (A B : ℕ) : Type 0 where
  pub candidate : Candidate n K r A B
  pub counting : Counting n F (reads_d (bit A) (bit B))
  pub possible : Possible n F (bit A) (bit B) r
  pub ahead : (A' B' : ℕ) → Candidate n K r A' B' → Counting n F (reads_d (bit A') (bit B'))
      → Possible n F (bit A') (bit B') r → Ahead n A B A' B'

-- the masks of an answer over the members of s, spread back to the members
abbrev pub spread_answer : ℕ → (ℕ → Bool) → Answer → Answer
spread_answer n s none = none
spread_answer n s (split A B) = split (spread n s A) (spread n s B)

-- the same to compute: the best split of the table over the inputs that count, its masks spread back
unfoldable pub best_counting : ℕ → ℕ → (ℕ → Bool) → ℕ → Answer
best_counting n r F K =
    let S = support n F in spread_answer n (bit S) (best (size n (bit S)) r (bit (table_over n (bit S) F)) K)
