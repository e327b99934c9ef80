-- Networks of m cells in order: every cell but the last is read, and of inputs that can change places the lower one is
-- read first.
use Rattle.std.specs.Prelude.{◌≡◌, Bool, true, List, ℕ, ◌+◌, ◌<◌, length}
use Rattle.sheets.specs.Network.{Cell, Gives}
use Rattle.networks.specs.Signals.{does_read, ReadLater}
use Rattle.networks.specs.Swapping.{Swappable}

-- m cells that carry F, each of which but the last is read by a later one
pub record Used (n K m : ℕ) (F : ℕ → Bool) : Type 0 where
  pub cells : List Cell
  pub count : length cells ≡ m
  pub network : Gives n K F cells
  pub read : (i : ℕ) → i + 1 < m → ReadLater n cells i

-- the first cell that reads just one of the inputs p and q reads p
abbrev pub First : List Cell → ℕ → ℕ → Type 0
First cs p q = (i : ℕ) → i < length cs → ((j : ℕ) → j < i → does_read cs j p ≡ does_read cs j q)
    → does_read cs i q ≡ true → does_read cs i p ≡ true

-- such cells in which this holds of every two inputs that can change places
pub record Sorted (n K m : ℕ) (F : ℕ → Bool) : Type 0 where
  pub used : Used n K m F
  pub sorted : (p q : ℕ) → p < q → q < n → Swappable n F p q → First used.cells p q
