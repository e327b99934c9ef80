-- Where a split breaks.
use Rattle.std.specs.Prelude.{◌≡◌, Bool, cond, ℕ, ◌<◌, ◌≤◌, ltb, length, Option, Some, None}
use Rattle.columns.specs.declared.columns.Broken.{Broken}
use Rattle.splits.specs.Columns.{columns, few_columns, first_broken}

-- the least b that has more than m different columns, and how many it has; both 0 where none has
abbrev pub broken_at : ℕ → (ℕ → Bool) → (ℕ → Bool) → (ℕ → Bool) → ℕ → Broken
broken_at n F A B m =
    let b = first_broken n F A B m in
    cond (few_columns n F A B m) (record { b = 0; columns = 0 })
    (record { b = b; columns = length (columns n F A B b) })

-- the same as an option: a shared assignment that breaks has a column
abbrev pub found_break : Broken → Option Broken
found_break w = cond (ltb 0 w.columns) (Some w) None

-- m + 1 places below n at which f has pairwise different values
pub record Several (f : ℕ → ℕ) (n m : ℕ) : Type 0 where
  pub at : ℕ → ℕ
  pub below : (i : ℕ) → i ≤ m → at i < n
  pub apart : (i j : ℕ) → i < j → j ≤ m → f (at i) ≡ f (at j) → ⊥
