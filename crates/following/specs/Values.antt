-- Variables that are set while a step is looked at, and what is then open in a clause.
use Rattle.std.specs.Prelude.{Bool, cond, List, [], ◌∷◌, ℕ, ◌+◌, ◌-◌, ◌*◌, ◌/◌, ◌%◌, eqb}
use Rattle.following.specs.declared.open.Open.{Open}
use Rattle.following.specs.declared.open.Open.TheVariants.{Nothing, One, Several}

-- a variable is not set, 0, or true, 1, or false, 2; at first none is set
abbrev pub not_set : ℕ → ℕ
not_set v = 0

-- a literal, 2 times its variable or, if it is denied, one more
abbrev pub is_true : (ℕ → ℕ) → ℕ → Bool
is_true σ l = eqb (σ (l / 2)) (1 + l % 2)

abbrev pub is_false : (ℕ → ℕ) → ℕ → Bool
is_false σ l = eqb (σ (l / 2)) (2 - l % 2)

abbrev pub is_open : (ℕ → ℕ) → ℕ → Bool
is_open σ l = eqb (σ (l / 2)) 0

-- the literal of the same variable that says the opposite
abbrev pub opposite : ℕ → ℕ
opposite l = l + 1 - 2 * (l % 2)

-- the literal made true
abbrev pub made : (ℕ → ℕ) → ℕ → ℕ → ℕ
made σ l v = cond (eqb v (l / 2)) (1 + l % 2) (σ v)

-- one literal more that isn't false
abbrev pub one_more : ℕ → Open → Open
one_more l Nothing = One l
one_more l (One k) = Several
one_more l Several = Several

-- one literal more
abbrev pub seen : (ℕ → ℕ) → ℕ → Open → Open
seen σ l o = cond (is_false σ l) o (one_more l o)

-- the literals of a clause that aren't false, after others
unfoldable pub open_after : (ℕ → ℕ) → Open → List ℕ → Open
open_after σ o [] = o
open_after σ o (l ∷ ls) = open_after σ (seen σ l o) ls

abbrev pub open_in : (ℕ → ℕ) → List ℕ → Open
open_in σ ls = open_after σ Nothing ls
