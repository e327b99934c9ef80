-- What the code that looks for the best over r holds.
use Rattle.std.specs.Prelude.{◌≡◌, Bool, ℕ, ◌+◌, ◌^◌, ◌<◌, ◌≤◌, Option, Some, None}
use Rattle.bits.specs.Numbers.{bit}
use Rattle.bits.specs.Sets.{size}
use Rattle.splits.specs.Columns.{most_first}
use Rattle.best.specs.Search.{Answer, none, split, above, best}
use Rattle.choices.specs.declared.over.Chosen.{Chosen}
use Rattle.choices.specs.Search.{Choice, nothing, choice, better}

-- how many first cells and the masks, or that there is nothing
abbrev pub choice_of : Option Chosen → Choice
choice_of (Some c) = choice c.first c.own c.shared
choice_of None = nothing

-- it has one first cell at least, and not too many
abbrev pub FewFirst : Option Chosen → Type 0
FewFirst (Some c) = (1 ≤ c.first) × (c.first ≤ most_first)
FewFirst None = Unit {0}

-- its own mask names n positions at most
abbrev pub OwnBelow : ℕ → Choice → Type 0
OwnBelow n nothing = Unit {0}
OwnBelow n (choice r A B) = A < 2 ^ n

-- so does that of a split
abbrev pub SplitBelow : ℕ → Answer → Type 0
SplitBelow n none = Unit {0}
SplitBelow n (split A B) = A < 2 ^ n

-- its |A| - r is more than `low`
abbrev pub Spares : ℕ → ℕ → Choice → Type 0
Spares n low nothing = Unit {0}
Spares n low (choice r A B) = low + r < size n (bit A)

-- beside the choice c, of the answers with r first cells whose |A| - r is more than `low`, those with more than f own
-- inputs are enough
pub record Floor (n r low : ℕ) (c : Choice) (f : ℕ) : Type 0 where
  pub least : r ≤ f
  pub enough : (a : Answer) → better n r c (above n f a) ≡ better n r c (above n (low + r) a)

-- a choice with up to m first cells is the best split of its r, and all K inputs are own
pub record Whole (n K m : ℕ) (F : ℕ → Bool) (r A B : ℕ) : Type 0 where
  pub some : 1 ≤ r
  pub most : r ≤ m
  pub answer : best n r F K ≡ split A B
  pub whole : size n (bit A) ≡ K

-- nothing was found at once, or a whole split
abbrev pub AtOnce : ℕ → ℕ → ℕ → (ℕ → Bool) → Choice → Type 0
AtOnce n K m F nothing = Unit {0}
AtOnce n K m F (choice r A B) = Whole n K m F r A B
