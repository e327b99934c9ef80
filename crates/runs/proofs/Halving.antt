-- A table by halves: clear in it, input by input, the half that the input's value does not pick. After j inputs those
-- bits are left whose places agree with the values below j; after all of them one bit, at the number that the values
-- make. Assumes nothing.
use mathlib.Core.Path.{◌≡◌, refl, sym, ap, ap₂, ◌∙◌}
use mathlib.Core.Bool.{Bool, true, false, cond, not, ◌&&◌, and-true, and-false, beq}
use Prim.Native.Nat.{ℕ, ◌+◌, ◌^◌, ◌<◌}
use native.Mathlib.Numerals.{add-one}
use lib.Dec.{eqb}
use borrow.Author.Tests.{eq-eqb, ne_eqb}
use Rattle.bits.specs.Numbers.{bit, number}
use Rattle.bits.specs.Below.{every}
use Rattle.bits.proofs.Bools.{clash, beq_same, same-beq}
use Rattle.bits.proofs.Below.{every_at, every_all}
use Rattle.bits.proofs.Numbers.{bit-number, bit-zero, number_bit, number_ext, number_lt, none-zero}

-- place x agrees with the values v at the inputs below j
abbrev agrees : (ℕ → Bool) → ℕ → ℕ → Bool
agrees v x j = every j (λ i. beq (bit x i) (v i))

-- the table T of n inputs, halved by the first j
abbrev pub Halved : ℕ → (ℕ → Bool) → ℕ → ℕ → ℕ → Type 0
Halved n v T t j = (x : ℕ) → x < 2 ^ n → bit t x ≡ (bit T x && agrees v x j)

module _ (n : ℕ) (v : ℕ → Bool) (T : ℕ) where
  pub halved_none : Halved n v T T 0
  halved_none x h = sym (and-true (bit T x))

  -- by one input more
  pub halved_more : (t r j : ℕ) → ((x : ℕ) → x < 2 ^ n → bit r x ≡ (bit t x && beq (bit x j) (v j)))
      → Halved n v T t j → Halved n v T r (j + 1)
  halved_more t r j e h x l =
      e x l ∙ ap (λ (s : Bool). s && beq (bit x j) (v j)) (h x l)
      ∙ go (bit T x) (agrees v x j) (beq (bit x j) (v j))
      ∙ ap (λ (m : ℕ). bit T x && agrees v x m) (sym (add-one j))
    where
      go : (s a p : Bool) → ((s && a) && p) ≡ (s && cond p a false)
      go true a true = and-true a
      go true a false = and-false a
      go false a p = refl

  -- by all of them: what is left isn't 0 exactly if the bit at their number is 1
  pub halved_all : (t : ℕ) → t < 2 ^ (2 ^ n) → Halved n v T t n → not (eqb t 0) ≡ bit T (number n v)
  halved_all t small h = go (bit T (number n v)) refl
    where
      here : agrees v (number n v) n ≡ true
      here = every_all n (λ i. beq (bit (number n v) i) (v i))
          (λ i l. same-beq (bit (number n v) i) (v i) (bit-number n v i l))

      only : (x : ℕ) → x < 2 ^ n → agrees v x n ≡ true → number n v ≡ x
      only x l e =
          number_ext n v (bit x) (λ i g. sym (beq_same (bit x i) (v i)
          (every_at n (λ i. beq (bit x i) (v i)) e i g))) ∙ number_bit n x l

      off : bit T (number n v) ≡ false → (x : ℕ) → x < 2 ^ n → (a : Bool) → agrees v x n ≡ a → (bit T x && a) ≡ false
      off q x l true e = and-true (bit T x) ∙ ap (bit T) (sym (only x l e)) ∙ q
      off q x l false e = and-false (bit T x)

      go : (b : Bool) → bit T (number n v) ≡ b → not (eqb t 0) ≡ b
      go true q = ap not (ne_eqb t 0 (λ z. clash (h (number n v) (number_lt n v) ∙ ap₂ ◌&&◌ q here)
          (ap (λ (m : ℕ). bit m (number n v)) z ∙ bit-zero (number n v))))
      go false q =
          ap not (eq-eqb t 0 (sym (number_bit (2 ^ n) t small)
          ∙ number_ext (2 ^ n) (bit t) (λ x. false) (λ x l. h x l ∙ off q x l (agrees v x n) refl)
          ∙ none-zero (2 ^ n)))
