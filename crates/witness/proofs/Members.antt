-- Members of masks that the machine makes, and what a larger pair of sets rules out. Assumes nothing.
use Rattle.std.proofs.Common.{◌≡◌, ℕ, zero, suc, ◌+◌, ◌-◌, ◌*◌, ◌/◌, ◌%◌, ◌^◌, ◌<◌, ◌≤◌, Bool, true, false, ◌||◌, eqb, sym, refl, ap, ◌∙◌, ap₂, pow-suc, arith, pow_pos}
use native.Mathlib.Decide.{dec_lt}
use lib.Bits.{bit_or, bit_xor, xor_shr, xor_mod}
use lib.Pow.{high}
use lib.Count.{count_leading_zeros, leading_top}
use Rattle.bits.specs.Numbers.{bit, val}
use Rattle.bits.proofs.Bools.{clash}
use Rattle.bits.proofs.Numbers.{bit-number, bit_high}
use Rattle.bits.proofs.Machine.{by_digits, bit-or}
use Rattle.bits.proofs.Single as Single
use Rattle.best.specs.Moves.{both}
use Rattle.witness.specs.Witness.{Inside, single, RulesOut}
use Rattle.witness.specs.Points.{differ}

-- `^`, bit by bit
pub bit-xor : (a b j : ℕ) → bit (bit_xor a b) j ≡ differ (bit a j) (bit b j)
bit-xor = by_digits bit_xor differ xor_shr xor_mod one
  where
    one : (s t : Bool) → eqb (bit_xor (val s) (val t)) 1 ≡ differ s t
    one true true = refl
    one true false = refl
    one false true = refl
    one false false = refl

-- the mask of one position
pub power_bit : (i x : ℕ) → bit (2 ^ i) x ≡ eqb x i
power_bit i x =
    let n = suc (i + x) in
    ap (λ (m : ℕ). bit m x) (sym (Single.single n i (omega arith))) ∙ bit-number n (λ j. eqb j i) x (omega arith)

below_power : (a : ℕ) → a < 2 ^ a
below_power zero = pow_pos 0
below_power (suc a) = omega (arith, below_power a, pow-suc 2 a)

-- a number that is not 0 has a bit
pub some_bit : (a : ℕ) → (a ≡ 0 → ⊥) → (k : ℕ) × (bit a k ≡ true)
some_bit a g = go (leading_top a a (omega arith) (below_power a))
  where
    go : (j : ℕ) × (count_leading_zeros a a + suc j ≡ a) × (2 ^ j ≤ a) × (a < 2 ^ suc j) → (k : ℕ) × (bit a k ≡ true)
    go u =
        let e : a ≡ 1 * 2 ^ u.0 + (a - 2 ^ u.0) = omega arith in
        let l : a - 2 ^ u.0 < 2 ^ u.0 = omega (arith, pow-suc 2 u.0) in
        (u.0, ap (λ (m : ℕ). eqb (m % 2) 1) (ap (λ (m : ℕ). m / 2 ^ u.0) e ∙ high 1 u.0 l))

-- a bit of a number of w bits is below w
pub bit_within : (m w j : ℕ) → m < 2 ^ w → bit m j ≡ true → j < w
bit_within m w j h e = elim (dec_lt j w) [ yes l ↦ l | no l ↦ absurd (clash e (bit_high m w j h (omega arith))) ]

-- what a smaller pair of sets rules out, a larger one rules out too
pub rules_more : {n : ℕ} {F : ℕ → Bool} {m : ℕ} {P Q P' Q' : ℕ → Bool} → RulesOut n F m P Q → Inside P P' → Inside Q Q'
    → RulesOut n F m P' Q'
rules_more w p q = record {
  fails = λ A B apart own free. w.fails A B apart (λ j e. own j (p j e))
      (λ j e. free j (q j e));
}

-- the triple
pub triple_rule : {n : ℕ} {F : ℕ → Bool} {m : ℕ} (i j c p q d : ℕ) → p ≡ 2 ^ i → q ≡ 2 ^ j → d ≡ 2 ^ c
    → RulesOut n F m (bit (bit_or p q)) (bit d)
    → RulesOut n F m (both i j) (single c)
triple_rule i j c p q d ep eq ed w =
    rules_more w
    (λ x e. sym (bit-or p q x ∙ ap₂ ◌||◌ (ap (λ (m : ℕ). bit m x) ep ∙ power_bit i x)
    (ap (λ (m : ℕ). bit m x) eq ∙ power_bit j x)) ∙ e)
    (λ x e. sym (ap (λ (m : ℕ). bit m x) ed ∙ power_bit c x) ∙ e)
