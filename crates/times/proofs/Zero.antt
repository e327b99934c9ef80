-- What the test against zero says of a float. Assumes nothing.
use Rattle.std.proofs.Common.{◌≡◌, ℕ, zero, suc, ◌*◌, ◌<◌, Bool, true, false, ◌&&◌, ◌||◌, T, eqb, ℤ, sym, refl, ap, ◌∙◌, subst, ap₂, zero-lt-suc, mul-pos, zero-mul, arith, eq-eqb, ne_eqb}
use mathlib.Core.Bool.{beq}
use lib.Ieee.{Float, nan, inf, fin, binary64, up, down, eq, of_bits}
use lib.Ieee.Fits.{up_pos}
use Rattle.times.specs.InputTimes.{plain_zero}

apart : (a b : ℕ) (s : Bool) → 0 < a → b ≡ 0 → (eqb a b && (beq s false || eqb a 0)) ≡ true → ⊥
apart a b s h k e =
    let z : eqb a b ≡ false = ne_eqb a b (λ q. omega (arith, q)) in
    subst T (sym e ∙ ap (λ (t : Bool). t && (beq s false || eqb a 0)) z) tt

same : (a b : ℕ) (s : Bool) → a ≡ 0 → b ≡ 0 → (eqb a b && (beq s false || eqb a 0)) ≡ false → ⊥
same a b s h k e =
    let z : eqb a b ≡ true = eq-eqb a b (h ∙ sym k) in
    let w : eqb a 0 ≡ true = eq-eqb a 0 h in
    subst T (sym (both s) ∙ ap₂ (λ (t u : Bool). t && (beq s false || u)) (sym z) (sym w) ∙ e) tt
  where
    both : (s : Bool) → (true && (beq s false || true)) ≡ true
    both true = refl
    both false = refl

lift : (m : ℕ) (e : ℤ) → 0 < suc m * up e * 1
lift m e = mul-pos (mul-pos (zero-lt-suc m) (up_pos e)) (zero-lt-suc 0)

left : (e : ℤ) → 0 * up e * 1 ≡ 0
left e = ap (λ (n : ℕ). n * 1) (zero-mul (up e))

-- a float that equals 0.0 is plain zero's
pub zero_test : (x : Float) → eq x (of_bits binary64 0) ≡ true → of_bits binary64 0 ≡ plain_zero x
unfolding eq plain_zero of_bits
zero_test nan h = absurd (subst T (sym h) tt)
zero_test (inf s) h = absurd (subst T (sym h) tt)
zero_test (fin s zero e) h = refl
zero_test (fin s (suc m) e) h = absurd (apart (suc m * up e * 1) (0 * 1 * down e) s (lift m e) (zero-mul (down e)) h)

pub other_test : (x : Float) → eq x (of_bits binary64 0) ≡ false → x ≡ plain_zero x
unfolding eq plain_zero of_bits
other_test nan h = refl
other_test (inf s) h = refl
other_test (fin s zero e) h = absurd (same (0 * up e * 1) (0 * 1 * down e) s (left e) (zero-mul (down e)) h)
other_test (fin s (suc m) e) h = refl
