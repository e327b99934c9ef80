-- An assignment with one input set: its bits, and that the order does not matter. Assumes nothing.
use mathlib.Core.Path.{◌≡◌, refl, sym, ap, ◌∙◌}
use mathlib.Core.Bool.{Bool, true, false, cond}
use Prim.Native.Nat.{ℕ, ◌^◌, ◌<◌}
use lib.Dec.{eqb}
use borrow.Author.Tests.{eq-eqb, ne_eqb, eqb-true}
use Rattle.bits.specs.Numbers.{bit}
use Rattle.bits.proofs.Numbers.{number_lt, bit-number}
use Rattle.bits.proofs.Members.{same_bits}
use Rattle.joins.specs.StandsFor.{set_to}

module _ (n i : ℕ) (v : Bool) where
  pub set-lt : (x : ℕ) → set_to n i v x < 2 ^ n
  unfolding set_to
  set-lt x = number_lt n (λ p. cond (eqb p i) v (bit x p))

  pub set-bit : (x p : ℕ) → p < n → bit (set_to n i v x) p ≡ cond (eqb p i) v (bit x p)
  unfolding set_to
  set-bit x p l = bit-number n (λ p. cond (eqb p i) v (bit x p)) p l

  pub set_here : (x : ℕ) → i < n → bit (set_to n i v x) i ≡ v
  set_here x l = set-bit x i l ∙ ap (λ (t : Bool). cond t v (bit x i)) (eq-eqb i i refl)

  pub set-off : (x p : ℕ) → p < n → (p ≡ i → ⊥) → bit (set_to n i v x) p ≡ bit x p
  set-off x p l f = set-bit x p l ∙ ap (λ (t : Bool). cond t v (bit x p)) (ne_eqb p i f)

-- set twice: the later one
pub set_twice : (n i : ℕ) (v w : Bool) (x : ℕ) → set_to n i v (set_to n i w x) ≡ set_to n i v x
set_twice n i v w x =
    same_bits n (set_to n i v (set_to n i w x)) (set_to n i v x) (set-lt n i v (set_to n i w x)) (set-lt n i v x) (λ p l.
    set-bit n i v (set_to n i w x) p l ∙ ap (cond (eqb p i) v) (set-bit n i w x p l) ∙ go (eqb p i) (bit x p)
    ∙ sym (set-bit n i v x p l))
  where
    go : (s b : Bool) → cond s v (cond s w b) ≡ cond s v b
    go true b = refl
    go false b = refl

-- two inputs, in either order
pub set_swap : (n i j : ℕ) (v w : Bool) (x : ℕ) → (i ≡ j → ⊥) → set_to n i v (set_to n j w x)
    ≡ set_to n j w (set_to n i v x)
set_swap n i j v w x ne =
    same_bits n (set_to n i v (set_to n j w x)) (set_to n j w (set_to n i v x)) (set-lt n i v (set_to n j w x))
    (set-lt n j w (set_to n i v x)) (λ p l.
    set-bit n i v (set_to n j w x) p l ∙ ap (cond (eqb p i) v) (set-bit n j w x p l)
    ∙ go p (eqb p i) (eqb p j) refl refl (bit x p)
    ∙ sym (set-bit n j w (set_to n i v x) p l ∙ ap (cond (eqb p j) w) (set-bit n i v x p l)))
  where
    go : (p : ℕ) (s t : Bool) → eqb p i ≡ s → eqb p j ≡ t → (b : Bool) → cond s v (cond t w b) ≡ cond t w (cond s v b)
    go p true true e f b = absurd (ne (sym (eqb-true p i e) ∙ eqb-true p j f))
    go p true false e f b = refl
    go p false true e f b = refl
    go p false false e f b = refl
