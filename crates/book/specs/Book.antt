-- The book: for each three-input table the least number reachable.
use Rattle.std.specs.Prelude.{cond, List, [], ◌∷◌, ℕ, suc, ◌<◌, ◌≤◌}
use Rattle.bits.specs.Below.{least}
use Rattle.bits.specs.Lists.{member}
use Rattle.turning.specs.Ways.{Reachable}
use Rattle.turning.specs.Reach.{reaches}

-- a three-input table is a byte
abbrev pub table_count : ℕ
table_count = 256

-- e is the least number reachable from f
pub record LeastReachable (f e : ℕ) : Type 0 where
  pub table : e < table_count
  pub reachable : Reachable f e
  pub least : (g : ℕ) → g < table_count → Reachable f g → e ≤ g

-- what the book says of f
unfoldable pub entry : ℕ → ℕ
entry f = least table_count (reaches f)

-- how many different numbers a list has
abbrev pub different : List ℕ → ℕ
different [] = 0
different (x ∷ l) = cond (member x l) (different l) (suc (different l))
