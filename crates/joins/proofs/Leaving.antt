-- What is left of a gate as one input more is fixed: it is what was left with that input at its value. Assumes nothing.
use mathlib.Core.Path.{◌≡◌, refl, sym, ap, ap₂, ◌∙◌, fun_ext}
use mathlib.Core.Bool.{Bool, true, false, cond, not, ◌&&◌, ◌||◌, and-true, and-false, or-false}
use Prim.Native.Nat.{ℕ, ◌+◌, ◌-◌, ◌*◌, ◌%◌, ◌^◌, ◌<◌}
use native.Mathlib.Omega.{arith}
use lib.Dec.{eqb}
use borrow.Author.Tests.{eqb-true}
use mir.Val.{bool_byte}
use Rattle.bits.specs.Numbers.{bit, val, number}
use Rattle.bits.specs.Sets.{gather}
use Rattle.bits.proofs.Bools.{clash, false_of}
use Rattle.bits.proofs.Numbers.{number_lt, number_bit, number_ext, bit-number}
use Rattle.bits.proofs.Sums.{number-join}
use Rattle.bits.proofs.Machine.{shl_one}
use Rattle.bits.proofs.Single.{single, plus_bit, plus_lt}
use Rattle.bits.proofs.Members.{same_bits, inside_spread}
use Rattle.bits.proofs.Spreading.{spread-lt}
use Rattle.tables.proofs.Pieces.{spread-part}
use Rattle.columns.specs.Reading.{Within}
use Rattle.joins.specs.StandsFor.{set_to, fixed_at}
use Rattle.joins.specs.Left.{with_fixed, gate_left, Fixing}
use Rattle.joins.proofs.Setting.{set-bit}

pub fixed_lt : (n f a x : ℕ) → with_fixed n f a x < 2 ^ n
unfolding with_fixed
fixed_lt n f a x = number_lt n (λ p. cond (bit f p) (bit a p) (bit x p))

pub fixed_bit : (n f a x p : ℕ) → p < n → bit (with_fixed n f a x) p ≡ cond (bit f p) (bit a p) (bit x p)
unfolding with_fixed
fixed_bit n f a x p l = bit-number n (λ p. cond (bit f p) (bit a p) (bit x p)) p l

-- one member less
module _ (n m i : ℕ) (h : m < 2 ^ n) (l : i < n) (e : bit m i ≡ true) where
  pub less_sum : number n (λ p. bit m p && not (eqb p i)) + 2 ^ i ≡ m
  less_sum =
      omega (
        arith,
        number_bit n m h,
        single n i l,
        number-join n (λ p. bit m p && not (eqb p i)) (λ p. eqb p i) (λ p b. meet (bit m p) (eqb p i)),
        number_ext n (λ p. (bit m p && not (eqb p i)) || eqb p i) (bit m)
            (λ p b. whole p (bit m p) (eqb p i) refl refl),
      )
    where
      meet : (s t : Bool) → (s && not t) ≡ true → t ≡ false
      meet true true e = sym e
      meet true false e = refl
      meet false t e = absurd (clash e refl)

      whole : (p : ℕ) (s t : Bool) → bit m p ≡ s → eqb p i ≡ t → ((s && not t) || t) ≡ s
      whole p true true f g = refl
      whole p false true f g = absurd (clash (ap (bit m) (eqb-true p i g) ∙ e) f)
      whole p true false f g = refl
      whole p false false f g = refl

  pub less_bit : (p : ℕ) → p < n → bit (m - 2 ^ i) p ≡ (bit m p && not (eqb p i))
  less_bit p b = let is : m - 2 ^ i ≡ number n (λ p. bit m p && not (eqb p i)) = omega (arith, less_sum) in
      ap (λ (y : ℕ). bit y p) is ∙ bit-number n (λ p. bit m p && not (eqb p i)) p b

-- `v << i` for a value v
pub value-shl : (v : Bool) (i : ℕ) → i < 32 → bool_byte v * 2 ^ i % 2 ^ 32 ≡ val v * 2 ^ i
value-shl false i l = omega arith
value-shl true i l = shl_one 32 i l ∙ omega arith

-- ---- input i, which is not fixed yet, at v
module _ (n : ℕ) (F : ℕ → Bool) (f a : ℕ) (below : f < 2 ^ n) (within : Within n f a) (i : ℕ) (l : i < n)
    (unfixed : bit f i ≡ false) (v : Bool) where
  abbrev f' : ℕ
  f' = f + 2 ^ i

  abbrev a' : ℕ
  a' = a + val v * 2 ^ i

  values_lt : a < 2 ^ n
  values_lt = omega (arith, within, spread-lt n (bit f) (gather n (bit f) a))

  -- what is not fixed has no value
  no_value : (p : ℕ) → bit f p ≡ false → bit a p ≡ false
  no_value p e = false_of (bit a p) (λ t.
      clash (spread-part n f (gather n (bit f) a) p (ap (λ (y : ℕ). bit y p) (sym within) ∙ t)) e)

  mask_bit : (p : ℕ) → p < n → bit f' p ≡ (bit f p || eqb p i)
  mask_bit = plus_bit n f i below l unfixed

  value-bit : (p : ℕ) → p < n → bit a' p ≡ (bit a p || (eqb p i && v))
  value-bit p b = go v
    where
      go : (v : Bool) → bit (a + val v * 2 ^ i) p ≡ (bit a p || (eqb p i && v))
      go true = let e : a + 1 * 2 ^ i ≡ a + 2 ^ i = omega arith in
          ap (λ (y : ℕ). bit y p) e ∙ plus_bit n a i values_lt l (no_value i unfixed) p b
          ∙ ap (λ (t : Bool). bit a p || t) (sym (and-true (eqb p i)))
      go false = let e : a + 0 * 2 ^ i ≡ a = omega arith in
          ap (λ (y : ℕ). bit y p) e
          ∙ sym (ap (λ (t : Bool). bit a p || t) (and-false (eqb p i)) ∙ or-false (bit a p))

  pub value-lt : a' < 2 ^ n
  value-lt = go v
    where
      go : (v : Bool) → a + val v * 2 ^ i < 2 ^ n
      go true = omega (arith, plus_lt n a i values_lt l (no_value i unfixed))
      go false = omega (arith, values_lt)

  pub fixing_more : (s : ℕ) → Fixing n (record { fixed = f'; at = a'; decided = s })
  fixing_more s = record {
    below = plus_lt n f i below l unfixed;
    within = sym (inside_spread n (bit f') a' value-lt (λ p b e. mask_bit p b ∙ go p (bit f p) (eqb p i) refl refl
        (sym (value-bit p b) ∙ e)));
  }
    where
      go : (p : ℕ) (s t : Bool) → bit f p ≡ s → eqb p i ≡ t → (bit a p || (t && v)) ≡ true → (s || t) ≡ true
      go p true t e g h = refl
      go p false true e g h = refl
      go p false false e g h = absurd (clash h (ap (λ (t : Bool). t || false) (no_value p e)))

  -- what is left is what was, with i at v
  pub left_more : (s r : ℕ) → gate_left n F (record { fixed = f'; at = a'; decided = s })
      ≡ fixed_at n (gate_left n F (record { fixed = f; at = a; decided = r })) i v
  left_more s r = fun_ext (λ x. ap F (
      same_bits n (with_fixed n f' a' x) (with_fixed n f a (set_to n i v x)) (fixed_lt n f' a' x)
      (fixed_lt n f a (set_to n i v x)) (λ p b.
      fixed_bit n f' a' x p b
      ∙ ap₂ (λ (s t : Bool). cond s t (bit x p)) (mask_bit p b) (value-bit p b)
      ∙ go p (bit f p) (eqb p i) refl refl (bit x p)
      ∙ sym (fixed_bit n f a (set_to n i v x) p b ∙ ap (cond (bit f p) (bit a p)) (set-bit n i v x p b)))))
    where
      go : (p : ℕ) (s t : Bool) → bit f p ≡ s → eqb p i ≡ t → (b : Bool)
          → cond (s || t) (bit a p || (t && v)) b ≡ cond s (bit a p) (cond t v b)
      go p true true e g b = absurd (clash (ap (bit f) (sym (eqb-true p i g)) ∙ e) unfixed)
      go p true false e g b = or-false (bit a p)
      go p false true e g b = ap (λ (t : Bool). t || v) (no_value p e)
      go p false false e g b = refl
