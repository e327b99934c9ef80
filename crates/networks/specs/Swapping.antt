-- Inputs that can change places.
use Rattle.std.specs.Prelude.{◌≡◌, Bool, true, false, cond, ◌||◌, ℕ, ◌^◌, ◌<◌, eqb}
use Rattle.std.specs.Bool.{beq}
use Rattle.bits.specs.Numbers.{bit, number, flipped}
use Rattle.bits.specs.Below.{every}

-- the assignment x with the bits at p and q swapped and, if so said, both flipped
unfoldable pub swapped : ℕ → Bool → ℕ → ℕ → ℕ → ℕ
swapped n f p q x =
    number n (λ j. cond (eqb j p) (flipped f (bit x q)) (cond (eqb j q) (flipped f (bit x p)) (bit x j)))

-- F is unchanged by swapping the bits at p and q in every assignment, or by swapping and flipping both
pub record Swappable (n : ℕ) (F : ℕ → Bool) (p q : ℕ) : Type 0 where
  pub flip : Bool
  pub same : (x : ℕ) → x < 2 ^ n → F (swapped n flip p q x) ≡ F x

-- the same as a test
unfoldable pub unchanged : ℕ → (ℕ → Bool) → Bool → ℕ → ℕ → Bool
unchanged n F f p q = every (2 ^ n) (λ x. beq (F (swapped n f p q x)) (F x))

abbrev pub swappable : ℕ → (ℕ → Bool) → ℕ → ℕ → Bool
swappable n F p q = unchanged n F false p q || unchanged n F true p q
