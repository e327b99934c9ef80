-- Columns of four bits: what a table has at a point, and at the point moved by either of two offsets and by both.
use Rattle.std.specs.Prelude.{◌≡◌, ℕ, ◌+◌, ◌*◌, ◌^◌, ◌<◌, Bool, true, false, bit_xor}
use Rattle.bits.specs.Numbers.{bit, val}

-- its four bits as a number below 16
abbrev pub column_over : (ℕ → Bool) → ℕ → ℕ → ℕ → ℕ
column_over F e f x = val (F x) + 2 * val (F (bit_xor x e)) + 4 * val (F (bit_xor x f))
    + 8 * val (F (bit_xor (bit_xor x e) f))

-- a point that differs from `base` at positions of the mask `own` alone, and has the column c
pub record HasColumn (n : ℕ) (F : ℕ → Bool) (own base e f c : ℕ) : Type 0 where
  pub point : ℕ
  pub below : point < 2 ^ n
  pub like : (j : ℕ) → j < n → bit own j ≡ false → bit point j ≡ bit base j
  pub is : column_over F e f point ≡ c

-- every member of the mask is the column of such a point
abbrev pub Seen : ℕ → (ℕ → Bool) → ℕ → ℕ → ℕ → ℕ → ℕ → Type 0
Seen n F own base e f seen = (c : ℕ) → bit seen c ≡ true → HasColumn n F own base e f c
