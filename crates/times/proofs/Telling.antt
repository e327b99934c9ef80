-- A time and its number of sixteenths, and the test whether that is a whole number; zero with either sign. Assumes
-- nothing.
use Rattle.std.proofs.Common.{◌≡◌, ℕ, zero, suc, ◌+◌, ◌*◌, ◌/◌, ◌%◌, ◌≤◌, Bool, true, false, T, ℤ, pos, sym, refl, ap, ◌∙◌, subst, div-add-mod', zero-mul, mul-div_cancel, arith, lit≤, eq-eqb, eqb-true}
use native.Mathlib.Nat.{mul-mod_left, zero-mod, zero-div, div-le_of_le-mul}
use lib.Ieee.{Float, nan, inf, fin, binary64, up, down, mul, eq, lt, le, fits, of_int, to_unsigned}
use lib.Ieee.Exact.{HasValue}
use lib.Ieee.Fits.{down_pos}
use Rattle.bits.proofs.Bools.{iff}
use Rattle.times.specs.InputTimes.{plain_zero, in_range}
use Rattle.times.specs.Sixteenths.{sixteenths_of, in_sixteenths}
use Rattle.times.proofs.Counting.{mul16, Time, time, no_minus, parts, bound, sound, counted, whole_value}
use Rattle.times.proofs.Counting.{read_back, apart}

-- ---- a time and its number of sixteenths

-- a time that is n sixteenths is a whole number of them, and that number is n
pub whole_of : (x : Float) (n : ℕ) → HasValue x false n 16 → (in_sixteenths x ≡ true) × (sixteenths_of x ≡ n)
unfolding in_sixteenths sixteenths_of
whole_of nan n h = absurd h
whole_of (inf s) n h = absurd h
whole_of (fin s m e) n h = (
  eq-eqb (m * up e * 16 % down e) 0 (ap (λ (k : ℕ). k % down e) h.1 ∙ mul-mod_left n (down e)),
  ap (λ (k : ℕ). k / down e) h.1 ∙ mul-div_cancel n (down_pos e),
)

-- a number from 0 to 4,096
pub record Ranged (x : Float) : Type 0 where
  pub m : ℕ
  pub e : ℤ
  pub is : x ≡ fin false m e
  pub within : m * up e ≤ 4096 * down e

-- one that is a whole number of sixteenths is that number of them
pub of_whole : (x : Float) → Ranged x → in_sixteenths x ≡ true → HasValue x false (sixteenths_of x) 16
    × (sixteenths_of x ≤ 65536)
of_whole x t h = subst (λ (v : Float). HasValue v false (sixteenths_of v) 16 × (sixteenths_of v ≤ 65536)) (sym t.is)
    (at t.m t.e t.within (ap in_sixteenths (sym t.is) ∙ h))
  where
    none : {a b : ℕ} → b ≡ 0 → a + b ≡ a
    none h = omega arith

    at : (m : ℕ) (e : ℤ) → m * up e ≤ 4096 * down e → in_sixteenths (fin false m e) ≡ true
        → HasValue (fin false m e) false (sixteenths_of (fin false m e)) 16 × (sixteenths_of (fin false m e) ≤ 65536)
    at m e l q = unfold in_sixteenths sixteenths_of in (
      (refl, sym (div-add-mod' (m * up e * 16) (down e)) ∙ none (eqb-true (m * up e * 16 % down e) 0 q)),
      div-le_of_le-mul (down e) (omega (arith, l)),
    )

-- ---- zero, with either sign

pub zero_time_lem : (x : Float) → T (fits binary64 x) → in_range x ≡ true → Time (plain_zero x)
zero_time_lem x f r = time (plain_zero x) (fits_plain x f) (subst T (sym (range_plain x r)) tt) (plain_twice x)
  where
    fits_plain : (x : Float) → T (fits binary64 x) → T (fits binary64 (plain_zero x))
    fits_plain nan f = unfold plain_zero in f
    fits_plain (inf s) f = unfold plain_zero in f
    fits_plain (fin s zero e) f = unfold plain_zero fits in tt
    fits_plain (fin s (suc m) e) f = unfold plain_zero in f

    range_plain : (x : Float) → in_range x ≡ true → in_range (plain_zero x) ≡ true
    range_plain nan r = unfold plain_zero in r
    range_plain (inf s) r = unfold plain_zero in r
    range_plain (fin s zero e) r = unfold plain_zero in_range le lt eq in refl
    range_plain (fin s (suc m) e) r = unfold plain_zero in r

    plain_twice : (x : Float) → plain_zero x ≡ plain_zero (plain_zero x)
    plain_twice nan = unfold plain_zero in refl
    plain_twice (inf s) = unfold plain_zero in refl
    plain_twice (fin s zero e) = unfold plain_zero in refl
    plain_twice (fin s (suc m) e) = unfold plain_zero in refl

pub ranged : (x : Float) → in_range x ≡ true → Ranged (plain_zero x)
unfolding le lt eq plain_zero
ranged nan r = absurd (parts nan (subst T (sym r) tt)).0
ranged (inf true) r = absurd (parts (inf true) (subst T (sym r) tt)).0
ranged (inf false) r = absurd (parts (inf false) (subst T (sym r) tt)).1
ranged (fin s zero e) r = record { m = 0; e = pos 0; is = refl; within = lit≤ tt }
ranged (fin true (suc m) e) r = absurd (no_minus m e (parts (fin true (suc m) e) (subst T (sym r) tt)).0)
ranged (fin false (suc m) e) r = record {
  m = suc m;
  e = e;
  is = refl;
  within = bound (suc m) e (parts (fin false (suc m) e) (subst T (sym r) tt)).1;
}

pub same_count : (x : Float) → sixteenths_of (plain_zero x) ≡ sixteenths_of x
unfolding plain_zero sixteenths_of
same_count nan = refl
same_count (inf s) = refl
same_count (fin s zero e) = sym (ap (λ (n : ℕ). n * 16 / down e) (zero-mul (up e)) ∙ zero-div (down e))
same_count (fin s (suc m) e) = refl

pub same_sixteenths : (x : Float) → in_sixteenths (plain_zero x) ≡ in_sixteenths x
unfolding plain_zero in_sixteenths
same_sixteenths nan = refl
same_sixteenths (inf s) = refl
same_sixteenths (fin s zero e) = sym (eq-eqb (0 * up e * 16 % down e) 0
    (ap (λ (n : ℕ). n * 16 % down e) (zero-mul (up e)) ∙ zero-mod (down e)))
same_sixteenths (fin s (suc m) e) = refl

-- the test by the way back: where y is a time by 16, and k its whole part
pub test_is : (x : Float) (t : Time x) (k : ℕ) (b : Float) → k ≡ to_unsigned 64 (mul binary64 x (fin false 1 (pos 4)))
    → b ≡ of_int binary64 (pos k)
    → eq b (mul binary64 x (fin false 1 (pos 4))) ≡ in_sixteenths x
test_is x t k b p q = iff (eq b y) (in_sixteenths x)
    (λ h. (whole_of x k (sound x t k (whole_value k (subst (λ (v : ℕ). v ≤ 1048576) (sym p) (counted x t)))
    (ap (λ (z : Float). eq z y) (sym q) ∙ h))).0)
    (λ h. there (of_whole x (record { m = t.m; e = t.e; is = t.is; within = t.within }) h))
  where
    y : Float
    y = mul binary64 x (fin false 1 (pos 4))

    true_of : (r : Bool) → (r ≡ false → ⊥) → r ≡ true
    true_of true h = refl
    true_of false h = absurd (h refl)

    there : HasValue x false (sixteenths_of x) 16 × (sixteenths_of x ≤ 65536) → eq b y ≡ true
    there w =
        let i = sixteenths_of x in
        let l : i ≤ 1048576 = omega (arith, w.1) in
        let e = mul16 x i w.0 in
        let s : k ≡ i = p ∙ ap (to_unsigned 64) e ∙ read_back i l in
        true_of (eq b y) (λ z. apart i e (q ∙ ap (λ (n : ℕ). of_int binary64 (pos n)) s) (whole_value i l) z)
