-- A gate with one input fixed, and two inputs of which one can stand for both.
use Rattle.std.specs.Prelude.{◌≡◌, Bool, cond, ℕ, ◌^◌, ◌<◌, eqb}
use Rattle.bits.specs.Numbers.{bit, number}

-- the assignment x with input i at v
unfoldable pub set_to : ℕ → ℕ → Bool → ℕ → ℕ
set_to n i v x = number n (λ p. cond (eqb p i) v (bit x p))

-- the gate G with input i fixed at v
abbrev pub fixed_at : ℕ → (ℕ → Bool) → ℕ → Bool → ℕ → Bool
fixed_at n G i v x = G (set_to n i v x)

-- input j can stand for i and j where i is fixed at v: the gate gives what it then gives at some D of the two
pub record StandsFor (n : ℕ) (G : ℕ → Bool) (i j : ℕ) (v : Bool) : Type 0 where
  pub D : Bool → Bool → Bool
  pub gives : (x : ℕ) → x < 2 ^ n → G x ≡ fixed_at n G i v (set_to n j (D (bit x j) (bit x i)) x)
