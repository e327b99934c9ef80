-- Formulas and their values.
use Rattle.std.specs.Prelude.{Bool, true, false, not, ◌&&◌, ◌||◌, ℕ, zero, suc}
use Rattle.bits.specs.Numbers.{bit}

-- a letter, 0 or 1, `!` before a formula, or two of them joined: by `&` at level 0, by `^` at 1, by `|` at 2
pub data Formula : Type 0 where
  letter : ℕ → Formula
  constant : Bool → Formula
  negated : Formula → Formula
  joined : ℕ → Formula → Formula → Formula

-- one of the two is 1, and not both
abbrev pub one_of : Bool → Bool → Bool
one_of true q = not q
one_of false q = q

-- what the mark of a level makes of two values
abbrev pub join : ℕ → Bool → Bool → Bool
join zero p q = p && q
join (suc zero) p q = one_of p q
join (suc (suc k)) p q = p || q

-- the value at the assignment x: letter j is input j, which is bit j of x
unfoldable pub value : Formula → ℕ → Bool
value (letter j) x = bit x j
value (constant t) x = t
value (negated F) x = not (value F x)
value (joined k F G) x = join k (value F x) (value G x)
