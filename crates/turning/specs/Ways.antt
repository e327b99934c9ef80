-- Turning one three-input table into another by swapped inputs, flipped inputs and a flipped output. A table is a
-- number below 256: its bit x is its value at the assignment x.
use Rattle.std.specs.Prelude.{◌≡◌, ◌⊎◌, Bool, true, ◌&&◌, ◌||◌, ℕ, zero, suc, ◌+◌, ◌*◌, ◌<◌, eqb, ltb}
use Rattle.bits.specs.Numbers.{bit, val, number}
pub use Rattle.bits.specs.Numbers.{flipped}
use Rattle.turning.specs.declared.ways.Way.{Way}

-- pj
abbrev pub place : Way → ℕ → ℕ
place w zero = w.p0
place w (suc zero) = w.p1
place w (suc (suc j)) = w.p2

-- y: its bit j is bit pj of x, flipped if bit j of the mask is set
unfoldable pub moved : Way → ℕ → ℕ
moved w x = number 3 (λ j. flipped (bit w.mask j) (bit x (place w j)))

-- the mask is one of three inputs, and p0, p1, p2 are the three inputs in some order
pub record IsWay (w : Way) : Type 0 where
  pub mask : w.mask < 8
  pub within : (j : ℕ) → j < 3 → place w j < 3
  pub apart : (i j : ℕ) → i < 3 → j < 3 → place w i ≡ place w j → i ≡ j

-- the second table at x is the first at y, flipped if so said
abbrev pub Turns : Way → ℕ → ℕ → Type 0
Turns w f g = (x : ℕ) → x < 8 → bit g x ≡ flipped w.flip (bit f (moved w x))

-- some swap and flips turn f into g
pub record Reachable (f g : ℕ) : Type 0 where
  pub way : Way
  pub is : IsWay way
  pub turns : Turns way f g

-- ---- which way is first

-- p0 p1 p2 read as one number
abbrev pub order_of : Way → ℕ
order_of w = w.p0 * 100 + w.p1 * 10 + w.p2

-- by output flip, then the mask of input flips, then p0 p1 p2 read as one number
abbrev pub before : Way → Way → Bool
before v w =
    ltb (val v.flip) (val w.flip) || (eqb (val v.flip) (val w.flip) &&
    (ltb v.mask w.mask || (eqb v.mask w.mask && ltb (order_of v) (order_of w))))

-- the first way of all that turn f into g
pub record FirstWay (f g : ℕ) (w : Way) : Type 0 where
  pub is : IsWay w
  pub turns : Turns w f g
  pub first : (v : Way) → IsWay v → Turns v f g → (v ≡ w) ⊎ (before w v ≡ true)

-- there are 2 output flips, 8 masks and 6 orders of the inputs
abbrev pub way_count : ℕ
way_count = 96
