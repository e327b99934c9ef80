-- Paths through a network, from an input to the output, and the time along one.
use Rattle.std.specs.Prelude.{◌≡◌, Bool, true, false, List, [], ℕ, zero, suc, ◌+◌, ◌-◌, ◌<◌, ◌≤◌, T, Float, length, get_or}
use Rattle.std.specs.Float.Ieee.{le}
use Rattle.sheets.specs.Network.{Cell}

-- the signals that cell i reads
abbrev pub read_by : List Cell → ℕ → List ℕ
read_by cs i = (get_or cs i (record { signals = []; table = 0 })).signals

-- from input j over k cells to signal t: it begins at an input, and goes on from a signal to a cell that reads it;
-- cell i gives signal n + i
pub data Leads (n : ℕ) (cs : List Cell) (j : ℕ) : ℕ → ℕ → Type 0 where
  begins : j < n → Leads n cs j j 0
  goes : (t k i p : ℕ) → Leads n cs j t k → i < length cs → p < length (read_by cs i) → get_or (read_by cs i) p 0 ≡ t
      → Leads n cs j (n + i) (suc k)

-- a path from input j over k cells to the output, which the last cell gives
abbrev pub Path : ℕ → List Cell → ℕ → ℕ → Type 0
Path n cs j k = Leads n cs j (n + (length cs - 1)) k

-- the time along a path of k cells that begins at x
unfoldable pub along : {A : Type 0} → (A → A) → ℕ → A → A
along after zero x = x
along after (suc k) x = after (along after k x)

-- by an order: x is at least y (late), or at most
abbrev pub beyond_by : {A : Type 0} → (A → A → Type 0) → Bool → A → A → Type 0
beyond_by at_most true x y = at_most y x
beyond_by at_most false x y = at_most x y

-- of whole numbers
abbrev pub Beyond : Bool → ℕ → ℕ → Type 0
Beyond = beyond_by ◌≤◌

-- of f64
abbrev pub BeyondTime : Bool → Float → Float → Type 0
BeyondTime = beyond_by (λ x y. T (le x y))

-- o is the best of the times along all paths: it is at least as good as each, and it is that along one of them
pub record BestPath {A : Type 0} (as_good : A → A → Type 0) (after : A → A) (n : ℕ) (cs : List Cell) (v : ℕ → A) (o : A)
    : Type 0 where
  pub bound : (j k : ℕ) → Path n cs j k → as_good o (along after k (v j))
  pub input : ℕ
  pub cells : ℕ
  pub path : Path n cs input cells
  pub reached : o ≡ along after cells (v input)
