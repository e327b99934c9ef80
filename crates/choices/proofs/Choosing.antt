-- The choice as the code holds it, and what a split found with r first cells makes of it. Assumes nothing.
use mathlib.Core.Path.{◌≡◌, refl, sym, ap, ◌∙◌, subst}
use mathlib.Core.Bool.{Bool, cond}
use Rattle.std.proofs.Common.{Option, None}
use Prim.Native.Nat.{ℕ, ◌+◌, ◌-◌, ◌<◌, ◌≤◌}
use native.Mathlib.Decide.{dec_lt}
use native.Mathlib.Omega.{arith}
use borrow.Author.Tests.{lt-ltb, le-ltb}
use Rattle.bits.specs.Numbers.{bit}
use Rattle.bits.specs.Sets.{size}
use Rattle.best.specs.Search.{Answer, none, split, above, best}
use Rattle.best.proofs.Best.{best_split, is_above, not-above}
use Rattle.choices.specs.declared.over.Chosen.{Chosen}
use Rattle.choices.specs.Search.{Choice, nothing, choice, better, sparing, first_over, best_up_to}
use Rattle.choices.specs.Chosen.{choice_of, FewFirst, OwnBelow, SplitBelow, Spares, Floor}
use Rattle.choices.proofs.Best.{upto_best}
use Rattle.choices.proofs.Sparing.{is_sparing, not-sparing, spare_better, one_more}

-- a split A, B with r first cells comes in beside a choice
module _ (n r : ℕ) (c : Chosen) (A B : ℕ) where
  abbrev by : Bool → Choice
  by b = cond b (choice r A B) (choice c.first c.own c.shared)

  -- it is taken where its |A| - r is larger
  pub taken : size n (bit c.own) + r < size n (bit A) + c.first
      → choice r A B ≡ better n r (choice c.first c.own c.shared) (split A B)
  taken l = ap by (sym (lt-ltb (size n (bit c.own) + r) (size n (bit A) + c.first) l))

  -- and where not, the choice so far stays
  pub stays : size n (bit A) + c.first ≤ size n (bit c.own) + r
      → choice c.first c.own c.shared ≡ better n r (choice c.first c.own c.shared) (split A B)
  stays l = ap by (sym (le-ltb (size n (bit c.own) + r) (size n (bit A) + c.first) l))

-- what is kept of the best over r names n positions at most, and spares enough
module _ (n K low : ℕ) (F : ℕ → Bool) (m : ℕ) (c : Option Chosen) (is : choice_of c ≡ sparing n low (best_up_to n F K m)) where
  abbrev Held : Choice → Type 0
  Held d = OwnBelow n d × Spares n low d

  pub held : OwnBelow n (choice_of c) × Spares n low (choice_of c)
  held = subst Held (sym is) (go (best_up_to n F K m) refl)
    where
      go : (d : Choice) → best_up_to n F K m ≡ d → Held (sparing n low d)
      go nothing e = (tt, tt)
      go (choice q A B) e = elim (dec_lt (low + q) (size n (bit A))) [
        | yes l ↦ subst Held (sym (is_sparing n low q A B l))
            (((upto_best n K F m q A B).0 e).works.candidate.below_a, l)
        | no l ↦ subst Held (sym (not-sparing n low q A B (omega arith))) (tt, tt)
      ]

-- ---- the loop over r: the best over those before r, if its |A| - r is more than `low`
pub record Chose (n K m low : ℕ) (F : ℕ → Bool) (c : Option Chosen) (r : ℕ) : Type 0 where
  pub best : choice_of c ≡ sparing n low (best_up_to n F K (r - 1))
  pub few : FewFirst c
  pub some : 1 ≤ r
  pub most : r ≤ m + 1

pub chose_none : {n K m low : ℕ} {F : ℕ → Bool} → Chose n K m low F None 1
unfolding first_over
chose_none = record { best = refl; few = tt; some = omega arith; most = omega arith }

module _ {n K m low : ℕ} {F : ℕ → Bool} {c : Option Chosen} {r : ℕ} (w : Chose n K m low F c r) where
  pub chose_below : OwnBelow n (choice_of c) × Spares n low (choice_of c)
  chose_below = held n K low F (r - 1) c w.best

  -- what is found with r first cells
  module _ (f : ℕ) (a : Answer) (is : a ≡ above n f (best n r F K)) where
    pub found_below : SplitBelow n a
    found_below = subst (SplitBelow n) (sym is) (go (best n r F K) refl)
      where
        go : (b : Answer) → best n r F K ≡ b → SplitBelow n (above n f b)
        go none e = tt
        go (split A B) e = elim (dec_lt f (size n (bit A))) [
          | yes l ↦ subst (SplitBelow n) (sym (is_above n f A B l)) (best_split n r F K A B e).candidate.below_a
          | no l ↦ subst (SplitBelow n) (sym (not-above n f A B (omega arith))) tt
        ]

    pub chose_more : Floor n r low (choice_of c) f → (c' : Option Chosen) → r ≤ m → (choice_of c' ≡ better n r (choice_of c) a)
        × FewFirst c'
        → Chose n K m low F c' (r + 1)
    chose_more fl c' h e = let q : r ≡ r + 1 - 1 = omega arith in record {
      best = e.0 ∙ ap (better n r (choice_of c)) is ∙ fl.enough (best n r F K)
          ∙ ap (λ (d : Choice). better n r d (above n (low + r) (best n r F K))) w.best
          ∙ sym (spare_better n low r (best_up_to n F K (r - 1)) (best n r F K))
          ∙ ap (sparing n low) (one_more n K F r w.some ∙ ap (best_up_to n F K) q);
      few = e.1;
      some = omega arith;
      most = omega arith;
    }

  pub chose_all : m < r → choice_of c ≡ sparing n low (best_up_to n F K m)
  chose_all h = let q : r - 1 ≡ m = omega (arith, w.most) in w.best
      ∙ ap (λ (i : ℕ). sparing n low (best_up_to n F K i)) q
