-- The sum of two values with the same denominator is their sum, rounded once; whole sixteenths of at most 53 digits are
-- values. Assumes nothing.
use Rattle.std.proofs.Common.{◌≡◌, ℕ, ◌+◌, ◌*◌, ◌^◌, ◌<◌, true, false, T, sym, ap, ◌∙◌, subst, ap₂, lt_trans, mul_assoc, mul_comm, add-mul, mul-pos, mul_right_comm, lit<, shl_lt}
use lib.Ieee.{Float, nan, inf, fin, binary64, up, down, round, add, sum}
use lib.Ieee.Exact.{HasValue, round_exact}
use lib.Ieee.Scale.{round_same}
use lib.Ieee.Fits.{down_pos}

-- i sixteenths are a value of the format, for every i of at most 53 digits
pub value : (i : ℕ) → i < 2 ^ 53 → HasValue (round binary64 false i 16) false i 16
value i h =
    round_exact binary64 false i 16 i 1070 (lit< tt) h (lt_trans (shl_lt 53 1070 h) (lit< tt))
    (sym (mul_assoc i (2 ^ 1070) 16))

never : true ≡ false → ⊥
never e = subst T e tt

cross : (x y p q a b c : ℕ) → x * c ≡ a * p → y * c ≡ b * q → (x * q + y * p) * c ≡ (a + b) * (p * q)
cross x y p q a b c h k =
    add-mul (x * q) (y * p) c
    ∙ ap₂ (λ (u v : ℕ). u + v)
    (mul_right_comm x q c ∙ ap (λ (u : ℕ). u * q) h ∙ mul_assoc a p q)
    (mul_right_comm y p c ∙ ap (λ (u : ℕ). u * p) k ∙ mul_assoc b q p ∙ ap (λ (u : ℕ). b * u) (mul_comm q p))
    ∙ sym (add-mul a b (p * q))

-- the sum of two values with the same denominator is their sum, rounded once
pub add_at : (x y : Float) (a b c : ℕ) → 0 < c → HasValue x false a c → HasValue y false b c → add binary64 x y
    ≡ round binary64 false (a + b) c
unfolding add sum
add_at nan y a b c C h k = absurd h
add_at (inf s) y a b c C h k = absurd h
add_at (fin s m e) nan a b c C h k = absurd k
add_at (fin s m e) (inf t) a b c C h k = absurd k
add_at (fin true m e) (fin t n d) a b c C h k = absurd (never h.0)
add_at (fin false m e) (fin true n d) a b c C h k = absurd (never k.0)
add_at (fin false m e) (fin false n d) a b c C h k =
    round_same binary64 false _ _ (a + b) c (mul-pos (down_pos e) (down_pos d)) C
    (cross (m * up e) (n * up d) (down e) (down d) a b c h.1 k.1)
