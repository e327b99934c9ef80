-- Trees of two-input nodes, said without splits, cells or the search.
use Rattle.std.specs.Prelude.{◌≡◌, Bool, ℕ, ◌+◌, ◌^◌, ◌<◌, eqb}
use Rattle.bits.specs.Numbers.{bit, val}
pub use Rattle.bits.specs.Numbers.{flipped}
use Rattle.tables.specs.Depends.{DependsOn}

-- a tree is a constant, an input plain or flipped, or a node: any function of two trees
pub data Tree : Type 0 where
  constant : Bool → Tree
  input : Bool → ℕ → Tree
  node : (Bool → Bool → Bool) → Tree → Tree → Tree

-- what a tree gives where input j is v j
abbrev pub value : Tree → (ℕ → Bool) → Bool
value (constant b) v = b
value (input f j) v = flipped f (v j)
value (node g s t) v = g (value s v) (value t v)

-- how often a tree reads input j
abbrev pub uses : ℕ → Tree → ℕ
uses j (constant b) = 0
uses j (input f i) = val (eqb i j)
uses j (node g s t) = uses j s + uses j t

-- a tree of the table F of n inputs: it reads each of the inputs that count once, and no other, and computes the table
pub record TreeOf (n : ℕ) (F : ℕ → Bool) (t : Tree) : Type 0 where
  pub once : (j : ℕ) → j < n → DependsOn n F j → uses j t ≡ 1
  pub only : (j : ℕ) → (j < n → DependsOn n F j → ⊥) → uses j t ≡ 0
  pub computes : (x : ℕ) → x < 2 ^ n → value t (bit x) ≡ F x

-- some tree of two-input nodes computes F
abbrev pub IsTree : ℕ → (ℕ → Bool) → Type 0
IsTree n F = (t : Tree) × TreeOf n F t
