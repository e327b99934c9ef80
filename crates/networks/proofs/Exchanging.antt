-- Where F is unchanged by swapping the inputs p and q, or by swapping and flipping both, a network that carries F makes
-- another in which the two have changed places: a cell reads p where it read q. Assumes nothing.
use mathlib.Core.Path.{◌≡◌, refl, sym, ap, ap₂, ◌∙◌}
use mathlib.Core.Logic.{◌↔◌}
use mathlib.Core.Bool.{Bool, true, false, cond, ◌&&◌, ◌||◌, beq}
use mathlib.Core.List.{List, map}
use Prim.Native.Nat.{ℕ, ◌+◌, ◌^◌, ◌<◌, ◌≤◌}
use native.Mathlib.Decide.{dec_lt}
use native.Mathlib.Omega.{arith}
use lib.Dec.{eqb}
use lib.ListN.{length, length-map}
use borrow.Author.Tests.{eq-eqb, ne_eqb, eqb-true, eqb-false}
use Rattle.bits.specs.Numbers.{bit, flipped}
use Rattle.bits.proofs.Bools.{or_left, or_right, beq_same, same-beq}
use Rattle.bits.proofs.Below.{every_at, every_all}
use Rattle.bits.proofs.Numbers.{bit-number, bit_high, number_lt}
use Rattle.sheets.specs.Network.{Cell, Gives}
use Rattle.networks.specs.Signals.{does_read, ReadLater}
use Rattle.networks.specs.Swapping.{swapped, Swappable, unchanged, swappable}
use Rattle.networks.proofs.Turning.{Moves, Seen, turned, turned-run, turned_wired, turned-reads}

-- ---- the test says what the words say
module _ (n : ℕ) (F : ℕ → Bool) (p q : ℕ) where
  pub swappable_is : (swappable n F p q ≡ true) ↔ Swappable n F p q
  unfolding unchanged
  swappable_is = (λ e. there (unchanged n F false p q) refl e, λ s. back s.flip s.same)
    where
      of : (f : Bool) → unchanged n F f p q ≡ true → Swappable n F p q
      of f e = record {
        flip = f;
        same = λ x h. beq_same (F (swapped n f p q x)) (F x) (every_at (2 ^ n)
            (λ x. beq (F (swapped n f p q x)) (F x)) e x h);
      }

      there : (t : Bool) → unchanged n F false p q ≡ t → (t || unchanged n F true p q) ≡ true → Swappable n F p q
      there true q e = of false q
      there false q e = of true e

      choose : (f : Bool) → unchanged n F f p q ≡ true → swappable n F p q ≡ true
      choose false e = or_left (unchanged n F false p q) (unchanged n F true p q) e
      choose true e = or_right (unchanged n F false p q) (unchanged n F true p q) e

      back : (f : Bool) → ((x : ℕ) → x < 2 ^ n → F (swapped n f p q x) ≡ F x) → swappable n F p q ≡ true
      back f same = choose f (every_all (2 ^ n) (λ x. beq (F (swapped n f p q x)) (F x))
          (λ x h. same-beq (F (swapped n f p q x)) (F x) (same x h)))

-- ---- p and q change places

-- p for q, q for p, and every other as it is
abbrev pub exchanged : ℕ → ℕ → ℕ → ℕ
exchanged p q s = cond (eqb s p) q (cond (eqb s q) p s)

module _ (p q : ℕ) where
  abbrev σ : ℕ → ℕ
  σ = exchanged p q

  pub exchanged_left : σ p ≡ q
  exchanged_left = ap (λ (t : Bool). cond t q (cond (eqb p q) p p)) (eq-eqb p p refl)

  pub exchanged_right : σ q ≡ p
  exchanged_right = go (eqb q p) refl
    where
      go : (t : Bool) → eqb q p ≡ t → cond t q (cond (eqb q q) p q) ≡ p
      go true e = eqb-true q p e
      go false e = ap (λ (t : Bool). cond t p q) (eq-eqb q q refl)

  pub exchanged_other : (s : ℕ) → (s ≡ p → ⊥) → (s ≡ q → ⊥) → σ s ≡ s
  exchanged_other s a b = ap₂ (λ (t u : Bool). cond t q (cond u p s)) (ne_eqb s p a) (ne_eqb s q b)

  twice : (s : ℕ) → σ (σ s) ≡ s
  twice s = go (eqb s p) (eqb s q) refl refl
    where
      go : (t u : Bool) → eqb s p ≡ t → eqb s q ≡ u → σ (σ s) ≡ s
      go true u e f = let r = eqb-true s p e in
          ap (λ (s : ℕ). σ (σ s)) r ∙ ap σ exchanged_left ∙ exchanged_right ∙ sym r
      go false true e f = let r = eqb-true s q f in
          ap (λ (s : ℕ). σ (σ s)) r ∙ ap σ exchanged_right ∙ exchanged_left ∙ sym r
      go false false e f = let o = exchanged_other s (eqb-false s p e) (eqb-false s q f) in ap σ o ∙ o

module _ (n p q : ℕ) (a : p < n) (b : q < n) (f : Bool) where
  abbrev φ : ℕ → Bool
  φ s = (eqb s p || eqb s q) && f

  pub moves : Moves n (exchanged p q) φ
  moves = record {
    back = twice p q;
    stays = λ s h. exchanged_other p q s (λ e. omega arith) (λ e. omega arith);
    plain = λ s h. ap₂ (λ (t u : Bool). (t || u) && f) (ne_eqb s p (λ e. omega arith)) (ne_eqb s q (λ e. omega arith));
  }

  swapped-lt : (x : ℕ) → swapped n f p q x < 2 ^ n
  unfolding swapped
  swapped-lt x = number_lt n _

  swapped-seen : (x : ℕ) → x < 2 ^ n → Seen (exchanged p q) φ (bit (swapped n f p q x)) (bit x)
  unfolding swapped
  swapped-seen x h s = elim (dec_lt s n) [
    | yes l ↦ bit-number n _ s l ∙ go (eqb s p) (eqb s q)
    | no l ↦ let m : n ≤ s = omega arith in
        bit_high (swapped n f p q x) n s (swapped-lt x) m
        ∙ sym (ap₂ (λ (t : Bool) (k : ℕ). flipped t (bit x k)) (moves.plain s m) (moves.stays s m)
        ∙ bit_high x n s h m)
  ]
    where
      go : (t u : Bool) → cond t (flipped f (bit x q)) (cond u (flipped f (bit x p)) (bit x s))
          ≡ flipped ((t || u) && f) (bit x (cond t q (cond u p s)))
      go true u = refl
      go false true = refl
      go false false = refl

  -- the cells with p and q in each other's place
  abbrev pub changed : List Cell → List Cell
  changed = map (turned (exchanged p q) φ)

  pub changed_length : (cs : List Cell) → length (changed cs) ≡ length cs
  changed_length cs = length-map cs (turned (exchanged p q) φ)

  pub changed_gives : (K : ℕ) (F : ℕ → Bool) (cs : List Cell) → ((x : ℕ) → x < 2 ^ n → F (swapped n f p q x) ≡ F x)
      → Gives n K F cs → Gives n K F (changed cs)
  changed_gives K F cs same N = record {
    some = omega (arith, changed_length cs, N.some);
    wired = turned_wired n (exchanged p q) φ moves K n cs (omega arith) N.wired;
    gives = λ x h.
        turned-run n (exchanged p q) φ moves cs false n (bit (swapped n f p q x)) (bit x) (omega arith)
        (swapped-seen x h)
        ∙ N.gives (swapped n f p q x) (swapped-lt x) ∙ same x h;
  }

  pub changed_read : (cs : List Cell) (i : ℕ) → ReadLater n cs i → ReadLater n (changed cs) i
  changed_read cs i r = record {
    reader = r.reader;
    later = r.later;
    within = omega (arith, r.within, changed_length cs);
    reads =
        ap (does_read (changed cs) r.reader) (sym (moves.stays (n + i) (omega arith)))
        ∙ turned-reads n (exchanged p q) φ moves cs r.reader (n + i) ∙ r.reads;
  }
