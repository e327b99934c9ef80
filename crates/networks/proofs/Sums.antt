-- Sums, and two of them whose terms differ at one place or at two. Assumes nothing.
use mathlib.Core.Path.{◌≡◌, refl, ap, ap₂}
use Prim.Native.Nat.{ℕ, zero, suc, ◌+◌, ◌<◌}
use native.Mathlib.Nat.{not-suc-le-zero}
use native.Mathlib.Decide.{dec_lt}
use native.Mathlib.Omega.{arith}

-- f 0 + .. + f (n - 1)
unfoldable pub sum : ℕ → (ℕ → ℕ) → ℕ
sum zero f = 0
sum (suc n) f = sum n f + f n

module _ (f g : ℕ → ℕ) where
  sum-none : (n : ℕ) → ((s : ℕ) → s < n → f s ≡ g s) → sum n f ≡ sum n g
  unfolding sum
  sum-none zero h = refl
  sum-none (suc n) h = ap₂ ◌+◌ (sum-none n (λ s l. h s (omega arith))) (h n (omega arith))

  sum_one : (p n : ℕ) → p < n → ((s : ℕ) → s < n → (s ≡ p → ⊥) → f s ≡ g s) → sum n f + g p ≡ sum n g + f p
  unfolding sum
  sum_one p zero a h = absurd (not-suc-le-zero a)
  sum_one p (suc n) a h = elim (dec_lt p n) [
    | yes l ↦ omega (arith, sum_one p n l (λ s b. h s (omega arith)), h n (omega arith) (λ e. omega arith))
    | no l ↦ let e : n ≡ p = omega arith in
        omega (arith, sum-none n (λ s b. h s (omega arith) (λ e. omega arith)), ap f e, ap g e)
  ]

  pub sum-two : (p q n : ℕ) → p < q → q < n → ((s : ℕ) → s < n → (s ≡ p → ⊥) → (s ≡ q → ⊥) → f s ≡ g s)
      → sum n f + (g p + g q) ≡ sum n g + (f p + f q)
  unfolding sum
  sum-two p q zero a b h = absurd (not-suc-le-zero b)
  sum-two p q (suc n) a b h = elim (dec_lt q n) [
    | yes l ↦ omega (
      arith,
      sum-two p q n a l (λ s c. h s (omega arith)),
      h n (omega arith) (λ e. omega arith) (λ e. omega arith),
    )
    | no l ↦ let e : n ≡ q = omega arith in
        omega (arith, sum_one p n (omega arith) (λ s c d. h s (omega arith) d (λ e. omega arith)), ap f e, ap g e)
  ]
