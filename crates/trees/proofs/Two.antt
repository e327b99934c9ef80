-- Two inputs as a mask: its members, its size, and what it gathers. Assumes nothing.
use mathlib.Core.Path.{◌≡◌, refl, sym, ap, ap₂, ◌∙◌}
use mathlib.Core.Logic.{◌⊎◌, inl, inr, ⊎_elim}
use mathlib.Core.Bool.{Bool, true, false, ◌||◌, or-false}
use Prim.Native.Nat.{ℕ, ◌+◌, ◌*◌, ◌^◌, ◌<◌}
use native.Mathlib.Omega.{arith}
use lib.Dec.{eqb}
use borrow.Author.Tests.{eq-eqb, ne_eqb, eqb-true}
use Rattle.bits.specs.Numbers.{bit, val}
use Rattle.bits.specs.Sets.{size, gather}
use Rattle.bits.proofs.Bools.{clash, or_left, or_right}
use Rattle.bits.proofs.Sizes.{size-lt, size_ext, size-sum}
use Rattle.bits.proofs.Counting.{size_none, size-one}
use Rattle.bits.proofs.Spreading.{gather-of}

-- the number of an assignment of two inputs, the lower first
abbrev pub two : Bool → Bool → ℕ
two p q = val p + val q * 2

two_low : (p q : Bool) → bit (two p q) 0 ≡ p
two_low true true = refl
two_low true false = refl
two_low false true = refl
two_low false false = refl

two_high : (p q : Bool) → bit (two p q) 1 ≡ q
two_high true true = refl
two_high true false = refl
two_high false true = refl
two_high false false = refl

two-lt : (p q : Bool) → two p q < 4
two-lt true true = omega arith
two-lt true false = omega arith
two-lt false true = omega arith
two-lt false false = omega arith

-- ---- a mask of two inputs
module _ (n i j own : ℕ) (li : i < n) (lj : j < n) (is : (p : ℕ) → p < n → bit own p ≡ (eqb p j || eqb p i)) where
  pub own_i : bit own i ≡ true
  own_i = is i li ∙ or_right (eqb i j) (eqb i i) (eq-eqb i i refl)

  pub own_j : bit own j ≡ true
  own_j = is j lj ∙ or_left (eqb j j) (eqb j i) (eq-eqb j j refl)

  pub own_only : (p : ℕ) → p < n → bit own p ≡ true → (p ≡ j) ⊎ (p ≡ i)
  own_only p l e = go (eqb p j) (eqb p i) refl refl (sym (is p l) ∙ e)
    where
      go : (s t : Bool) → eqb p j ≡ s → eqb p i ≡ t → (s || t) ≡ true → (p ≡ j) ⊎ (p ≡ i)
      go true t a b c = inl (eqb-true p j a)
      go false true a b c = inr (eqb-true p i b)
      go false false a b c = absurd (clash c refl)

  pub own_size : (i ≡ j → ⊥) → size n (bit own) ≡ 2
  own_size ne =
      sym (size-sum n (λ p. eqb p j) (λ p. eqb p i) (bit own)
      (λ p l. go p (eqb p j) (eqb p i) refl refl ∙ ap val (sym (is p l))))
      ∙ ap₂ ◌+◌ (one j lj) (one i li)
    where
      one : (k : ℕ) → k < n → size n (λ p. eqb p k) ≡ 1
      one k l = omega (arith, size-one n k, size-lt n (λ p. eqb p k) k l (eq-eqb k k refl))

      go : (p : ℕ) (s t : Bool) → eqb p j ≡ s → eqb p i ≡ t → val s + val t ≡ val (s || t)
      go p true true e f = absurd (ne (sym (eqb-true p i f) ∙ eqb-true p j e))
      go p true false e f = refl
      go p false t e f = omega arith

  -- j being the lower
  module _ (lt : j < i) where
    size_j : size j (bit own) ≡ 0
    size_j =
        size_ext j (bit own) (λ p. false) (λ p l. is p (omega arith)
        ∙ ap₂ ◌||◌ (ne_eqb p j (λ e. omega arith)) (ne_eqb p i (λ e. omega arith)))
        ∙ size_none j

    size_i : size i (bit own) ≡ 1
    size_i =
        let low : size i (bit own) ≡ size i (λ p. eqb p j) = size_ext i (bit own) (λ p. eqb p j) (λ p l.
        is p (omega arith) ∙ ap (λ (t : Bool). eqb p j || t) (ne_eqb p i (λ e. omega arith)) ∙ or-false (eqb p j)) in
        omega (arith, low, size-one i j, size-lt i (λ p. eqb p j) j lt (eq-eqb j j refl))

    pub gather-two : (x : ℕ) → gather n (bit own) x ≡ two (bit x j) (bit x i)
    gather-two x =
        gather-of n (bit own) x (two (bit x j) (bit x i)) (omega (arith, two-lt (bit x j) (bit x i), four)) (λ p l e.
        ⊎_elim (λ z. ap (bit x) z ∙ sym (at p 0 (ap (λ (m : ℕ). size m (bit own)) z ∙ size_j)
        ∙ two_low (bit x j) (bit x i)))
        (λ z. ap (bit x) z ∙ sym (at p 1 (ap (λ (m : ℕ). size m (bit own)) z ∙ size_i)
        ∙ two_high (bit x j) (bit x i))) (own_only p l e))
      where
        at : (p k : ℕ) → size p (bit own) ≡ k → bit (two (bit x j) (bit x i)) (size p (bit own))
            ≡ bit (two (bit x j) (bit x i)) k
        at p k e = ap (bit (two (bit x j) (bit x i))) e

        four : 2 ^ size n (bit own) ≡ 4
        four = ap (λ (m : ℕ). 2 ^ m) (own_size (λ e. omega arith))
