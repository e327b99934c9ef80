-- The best of all possible splits with 1, 2, .., m first cells: alone, and over the inputs that count.
use Rattle.std.specs.Prelude.{◌≡◌, Bool, ℕ, ◌+◌, ◌≤◌}
use Rattle.bits.specs.Numbers.{bit}
use Rattle.bits.specs.Sets.{size}
use Rattle.tables.specs.Counting.{Counting}
use Rattle.splits.specs.Split.{reads_d, Possible}
use Rattle.best.specs.Best.{Candidate, Ahead}

-- A and B are a candidate for r first cells, one at least and m at most, and it is possible
pub record Splits (n K m : ℕ) (F : ℕ → Bool) (r A B : ℕ) : Type 0 where
  pub some : 1 ≤ r
  pub most : r ≤ m
  pub candidate : Candidate n K r A B
  pub possible : Possible n F (bit A) (bit B) r

-- the same, and all their members count
pub record Works (n K m : ℕ) (F : ℕ → Bool) (r A B : ℕ) : Type 0 where
  pub some : 1 ≤ r
  pub most : r ≤ m
  pub candidate : Candidate n K r A B
  pub counting : Counting n F (reads_d (bit A) (bit B))
  pub possible : Possible n F (bit A) (bit B) r

-- r, A, B comes before r', A', B' or is the same: the largest |A| - r; then the least r; then document 01's order
pub record AheadOver (n r A B r' A' B' : ℕ) : Type 0 where
  pub largest : size n (bit A') + r ≤ size n (bit A) + r'
  pub least : size n (bit A') + r ≡ size n (bit A) + r' → r ≤ r'
  pub in_order : size n (bit A') + r ≡ size n (bit A) + r' → r' ≡ r → Ahead n A B A' B'

-- of all that work, the one that comes before all others
pub record FirstOf (n : ℕ) (Work : ℕ → ℕ → ℕ → Type 0) (r A B : ℕ) : Type 0 where
  pub works : Work r A B
  pub ahead : (r' A' B' : ℕ) → Work r' A' B' → AheadOver n r A B r' A' B'

-- the best with up to m first cells
abbrev pub BestUpTo : ℕ → ℕ → ℕ → (ℕ → Bool) → ℕ → ℕ → ℕ → Type 0
BestUpTo n K m F r A B = FirstOf n (Splits n K m F) r A B

-- the best with up to m first cells, over the inputs that count
abbrev pub BestOver : ℕ → ℕ → ℕ → (ℕ → Bool) → ℕ → ℕ → ℕ → Type 0
BestOver n K m F r A B = FirstOf n (Works n K m F) r A B
