-- The inputs that are not yet known to be idle, as they are looked at from the highest down. Assumes nothing.
use mathlib.Core.Path.{◌≡◌, refl, sym, ap, ap₂, ◌∙◌}
use mathlib.Core.Bool.{Bool, true, false, ◌||◌, or-true, or-false}
use Prim.Native.Nat.{ℕ, suc, ◌+◌, ◌^◌, ◌<◌}
use native.Mathlib.Decide.{dec_lt}
use native.Mathlib.Omega.{arith}
use lib.Dec.{ltb, eqb}
use borrow.Author.Tests.{lt-ltb, le-ltb, eqb-true, eqb-false}
use Rattle.bits.specs.Numbers.{bit, number}
use Rattle.bits.proofs.Bools.{or_left, or_right}
use Rattle.bits.proofs.Numbers.{number_lt, number_ext, bit-number}
use Rattle.bits.proofs.Sums.{all_ones}
use Rattle.bits.proofs.Single.{plus_is}
use Rattle.tables.specs.Counting.{counts, support}
use Rattle.tables.specs.Words.{Live}
use Rattle.tables.proofs.Depending.{sees_counts}

module _ (n : ℕ) (F : ℕ → Bool) where
  -- those below j, and those that count
  pub live : ℕ → ℕ
  live j = number n (λ i. ltb i j || counts n F i)

  pub live_all : live n + 1 ≡ 2 ^ n
  unfolding live
  live_all =
      ap (λ (m : ℕ). m + 1) (number_ext n (λ i. ltb i n || counts n F i) (λ i. true)
      (λ i h. ap (λ (t : Bool). t || counts n F i) (lt-ltb i n h))) ∙ all_ones n

  pub live_none : live 0 ≡ support n F
  unfolding live support
  live_none = number_ext n (λ i. ltb i 0 || counts n F i) (counts n F)
      (λ i h. ap (λ (t : Bool). t || counts n F i) (le-ltb i 0 (omega arith)))

  module _ (j : ℕ) (l : j < n) where
    live_bit : (k i : ℕ) → i < n → bit (live k) i ≡ (ltb i k || counts n F i)
    unfolding live
    live_bit k i h = bit-number n (λ i. ltb i k || counts n F i) i h

    pub lives : Live n F (live (suc j)) j
    unfolding live
    lives = record {
      below = number_lt n (λ i. ltb i (suc j) || counts n F i);
      sees = λ x y p q agree. sees_counts n F x y p q
          (λ i h e. agree i h (live_bit (suc j) i h ∙ or_right (ltb i (suc j)) (counts n F i) e));
      member = live_bit (suc j) j l ∙ or_left (ltb j (suc j)) (counts n F j) (lt-ltb j (suc j) (omega arith));
    }

    -- the others are as before
    other : (i : ℕ) → (i ≡ j → ⊥) → ltb i (suc j) ≡ ltb i j
    other i ne = elim (dec_lt i j) [
      | yes h ↦ lt-ltb i (suc j) (omega arith) ∙ sym (lt-ltb i j h)
      | no h ↦ le-ltb i (suc j) (omega arith) ∙ sym (le-ltb i j (omega arith))
    ]

    -- it stays live if it counts, and is set aside if it doesn't
    pub live_stays : counts n F j ≡ true → live (suc j) ≡ live j
    unfolding live
    live_stays c = number_ext n (λ i. ltb i (suc j) || counts n F i) (λ i. ltb i j || counts n F i)
        (λ i h. go i (eqb i j) refl)
      where
        go : (i : ℕ) (t : Bool) → eqb i j ≡ t → (ltb i (suc j) || counts n F i) ≡ (ltb i j || counts n F i)
        go i true e =
            let here = ap (counts n F) (eqb-true i j e) ∙ c in
            or_right (ltb i (suc j)) (counts n F i) here ∙ sym (or_right (ltb i j) (counts n F i) here)
        go i false e = ap (λ (t : Bool). t || counts n F i) (other i (eqb-false i j e))

    pub live_goes : counts n F j ≡ false → live (suc j) ≡ live j + 2 ^ j
    unfolding live
    live_goes c =
        sym (plus_is n (live j) j (number_lt n (λ i. ltb i j || counts n F i)) l off
        ∙ number_ext n (λ i. bit (live j) i || eqb i j) (λ i. ltb i (suc j) || counts n F i)
        (λ i h. go i h (eqb i j) refl))
      where
        off : bit (live j) j ≡ false
        off = live_bit j j l ∙ ap₂ ◌||◌ (le-ltb j j (omega arith)) c

        go : (i : ℕ) → i < n → (t : Bool) → eqb i j ≡ t → (bit (live j) i || t) ≡ (ltb i (suc j) || counts n F i)
        go i h true e = or-true (bit (live j) i) ∙ sym
            (or_left (ltb i (suc j)) (counts n F i) (lt-ltb i (suc j) (omega (arith, eqb-true i j e))))
        go i h false e = or-false (bit (live j) i) ∙ live_bit j i h
            ∙ ap (λ (t : Bool). t || counts n F i) (sym (other i (eqb-false i j e)))
