-- The sheet for a gate that make has none for, in words: which of the two it is.
use Rattle.std.specs.Prelude.{List, ℕ, ◌+◌, ◌-◌, ◌<◌, ◌≤◌, length}
use Rattle.splits.specs.Columns.{most_first}
use Rattle.sheets.specs.Edition.{most_records}
use Rattle.sheets.specs.Network.{Cell}
use Rattle.chains.specs.Over.{MakesOver, BlockedOver}
use Rattle.cofactors.specs.Cofactors.{cofactor_cells, cofactor_count, most_selecting}

-- c inputs are more than K, and so few more that there is a sheet of cofactors
pub record Near (K c : ℕ) : Type 0 where
  pub more : K < c
  pub few : c ≤ K + most_selecting K

-- the table U over the signals l, of which c count, is made into these cells, the first giving signal n
pub data Chosen (K n : ℕ) (l : List ℕ) (U c : ℕ) : List Cell → Type 0 where
  -- both: the chain's cells where they are not more
  chain_kept : (cs : List Cell) → MakesOver most_first K n l U cs → Near K c → length cs ≤ cofactor_count K (c - K)
      → Chosen K n l U c cs
  -- else the sheet of cofactors
  chain_longer : (cs : List Cell) → MakesOver most_first K n l U cs → Near K c → cofactor_count K (c - K) < length cs
      → Chosen K n l U c (cofactor_cells K n l U)
  -- the chain alone, if a sheet has room for its cells
  chain_alone : (cs : List Cell) → MakesOver most_first K n l U cs → K + most_selecting K < c → length cs ≤ most_records
      → Chosen K n l U c cs
  -- the sheet of cofactors alone
  cofactors_alone : BlockedOver most_first K n l U → Near K c → Chosen K n l U c (cofactor_cells K n l U)
