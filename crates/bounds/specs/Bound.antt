-- A lower bound on the cells of size K that carry a table, said of networks, trees and the inputs that count: without
-- splits, chains or the search.
use Rattle.std.specs.Prelude.{◌≡◌, Bool, ℕ, ◌+◌, ◌-◌, ◌*◌, ◌<◌, ◌≤◌, max}
use Rattle.bits.specs.Numbers.{bit}
use Rattle.bits.specs.Sets.{size}
use Rattle.tables.specs.Counting.{support}
use Rattle.sheets.specs.Network.{Carries}
use Rattle.trees.specs.Tree.{IsTree}

-- how many inputs count
abbrev pub counted : ℕ → (ℕ → Bool) → ℕ
counted n F = size n (bit (support n F))

-- L is a lower bound: no network of fewer than L cells of size K carries F, wired in any way at all
abbrev pub NoFewer : ℕ → ℕ → (ℕ → Bool) → ℕ → Type 0
NoFewer n K F L = (m : ℕ) → Carries n K m F → L ≤ m

-- m is the least number of cells of size K that can bring c inputs to one output: c ≤ m(K - 1) + 1
pub record Reaching (c K m : ℕ) : Type 0 where
  pub enough : c ≤ m * (K - 1) + 1
  pub least : (k : ℕ) → c ≤ k * (K - 1) + 1 → m ≤ k

-- which number the bound is; one of the cases holds, and no two of them give different numbers
pub data Bound (n K : ℕ) (F : ℕ → Bool) : ℕ → Type 0 where
  -- at most K inputs count: 1
  one : counted n F ≤ K → Bound n K F 1
  -- more, and two cells carry the table: 2
  two : K < counted n F → Carries n K 2 F → Bound n K F 2
  -- with cells of two inputs, a table that is no tree: as many as inputs count
  treeless : K ≡ 2 → K < counted n F → (IsTree n F → ⊥) → Bound n K F (counted n F)
  -- else the greater of 3 and the least number that reaches the inputs that count
  more : {m : ℕ} → K < counted n F → (Carries n K 2 F → ⊥) → (K ≡ 2 → IsTree n F) → Reaching (counted n F) K m
      → Bound n K F (max 3 m)
