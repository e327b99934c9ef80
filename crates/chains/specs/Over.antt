-- The chain with up to m first cells at each step, in words: without the search, and without a bound on the number of
-- steps.
use Rattle.std.specs.Prelude.{List, [], ◌∷◌, ◌++◌, ℕ, ◌+◌, ◌<◌, ◌≤◌, length}
use Rattle.bits.specs.Numbers.{bit}
use Rattle.choices.specs.Best.{Splits, BestUpTo}
use Rattle.sheets.specs.Network.{Cell}
use Rattle.chains.specs.Chain.{new_cells, signals_after, table_after, last_cell}

-- the table T over the signals l makes these cells, the first giving signal i
pub data MakesOver (m K : ℕ) : ℕ → List ℕ → ℕ → List Cell → Type 0 where
  -- at most K signals: what remains is the final cell
  ends : {i : ℕ} {l : List ℕ} {T : ℕ} → length l ≤ K → MakesOver m K i l T (last_cell l T ∷ [])
  -- more: the first cells of the best split are the next cells, and H makes the others
  goes : {i : ℕ} {l : List ℕ} {T : ℕ} (r A B : ℕ) {cs : List Cell} → K < length l
      → BestUpTo (length l) K m (bit T) r A B
      → MakesOver m K (i + r) (signals_after l r A B i) (table_after l T r A B) cs
      → MakesOver m K i l T (new_cells l T r A B ++ cs)

-- the table T' over the signals l' stands in the chain that starts with the table T over the signals l
pub data InChainOver (m K : ℕ) (l' : List ℕ) (T' : ℕ) : ℕ → List ℕ → ℕ → Type 0 where
  itself : {i : ℕ} → InChainOver m K l' T' i l' T'
  later : {i : ℕ} {l : List ℕ} {T : ℕ} (r A B : ℕ) → K < length l → BestUpTo (length l) K m (bit T) r A B
      → InChainOver m K l' T' (i + r) (signals_after l r A B i) (table_after l T r A B) → InChainOver m K l' T' i l T

-- a table in the chain with more than K inputs has no possible split, for any r up to m
pub record BlockedOver (m K i : ℕ) (l : List ℕ) (T : ℕ) : Type 0 where
  pub signals : List ℕ
  pub table : ℕ
  pub in_chain : InChainOver m K signals table i l T
  pub more : K < length signals
  pub never : (r A B : ℕ) → Splits (length signals) K m (bit table) r A B → ⊥
