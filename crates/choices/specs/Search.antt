-- The best over r, to compute: of the best split of each r, the one with the largest |A| - r, and the least r of those.
use Rattle.std.specs.Prelude.{Bool, cond, ℕ, zero, suc, ◌+◌, ltb}
use Rattle.bits.specs.Numbers.{bit}
use Rattle.bits.specs.Sets.{size, spread}
use Rattle.best.specs.Search.{Answer, none, split, best}
use Rattle.best.specs.Counting.{best_counting}

-- how many first cells, the own and the shared mask; or nothing
pub data Choice : Type 0 where
  nothing : Choice
  choice : ℕ → ℕ → ℕ → Choice

-- the choice so far, and the best split with r first cells, which is taken where its |A| - r is larger
abbrev pub better : ℕ → ℕ → Choice → Answer → Choice
better n r c none = c
better n r nothing (split A B) = choice r A B
better n r (choice q C D) (split A B) =
    cond (ltb (size n (bit C) + r) (size n (bit A) + q)) (choice r A B) (choice q C D)

-- a choice whose |A| - r is more than `low`; any other is nothing
abbrev pub sparing : ℕ → ℕ → Choice → Choice
sparing n low nothing = nothing
sparing n low (choice r A B) = cond (ltb (low + r) (size n (bit A))) (choice r A B) nothing

-- the best of what f answers for 1, 2, .., m first cells
unfoldable pub first_over : ℕ → (ℕ → Answer) → ℕ → Choice
first_over n f zero = nothing
first_over n f (suc m) = better n (suc m) (first_over n f m) (f (suc m))

-- the best with up to m first cells
abbrev pub best_up_to : ℕ → (ℕ → Bool) → ℕ → ℕ → Choice
best_up_to n F K m = first_over n (λ r. best n r F K) m

-- the same over the inputs that count
abbrev pub best_over : ℕ → (ℕ → Bool) → ℕ → ℕ → Choice
best_over n F K m = first_over n (λ r. best_counting n r F K) m

-- the masks of a choice over the members of s, spread back to the members
abbrev pub spread_choice : ℕ → (ℕ → Bool) → Choice → Choice
spread_choice n s nothing = nothing
spread_choice n s (choice r A B) = choice r (spread n s A) (spread n s B)
