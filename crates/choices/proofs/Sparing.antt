-- Leaving out what cannot be the best over r: dropping all whose |A| - r is `low` or less, for each r or at the end, is
-- the same; a choice made needs only what beats it; and a split with all K inputs own is beaten by fewer first cells
-- alone. Assumes nothing.
use mathlib.Core.Path.{◌≡◌, refl, sym, ap, ◌∙◌}
use mathlib.Core.Bool.{Bool, true, false, cond}
use Prim.Native.Nat.{ℕ, zero, suc, ◌+◌, ◌-◌, ◌<◌, ◌≤◌}
use native.Mathlib.Decide.{dec_lt}
use native.Mathlib.Omega.{arith}
use lib.Dec.{ltb}
use borrow.Author.Tests.{lt-ltb, le-ltb, ltb-true, ltb-false}
use Rattle.bits.specs.Numbers.{bit}
use Rattle.bits.specs.Sets.{size}
use Rattle.best.specs.Search.{Answer, none, split, above, best}
use Rattle.best.proofs.Best.{best_split, is_above, not-above}
use Rattle.choices.specs.Best.{Splits}
use Rattle.choices.specs.Search.{Choice, nothing, choice, better, sparing, first_over, best_up_to}
use Rattle.choices.specs.Chosen.{Floor, Whole}
use Rattle.choices.proofs.First.{smaller}
use Rattle.choices.proofs.Best.{upto_best, upto_none}

module _ (n low r A B : ℕ) where
  pub is_sparing : low + r < size n (bit A) → sparing n low (choice r A B) ≡ choice r A B
  is_sparing h = ap (λ (t : Bool). cond t (choice r A B) nothing) (lt-ltb (low + r) (size n (bit A)) h)

  pub not-sparing : size n (bit A) ≤ low + r → sparing n low (choice r A B) ≡ nothing
  not-sparing h = ap (λ (t : Bool). cond t (choice r A B) nothing) (le-ltb (low + r) (size n (bit A)) h)

-- ---- for each r, or at the end
module _ (n low r : ℕ) where
  pub spare_better : (c : Choice) (a : Answer) → sparing n low (better n r c a)
      ≡ better n r (sparing n low c) (above n (low + r) a)
  spare_better c none = refl
  spare_better nothing (split A B) = go (ltb (low + r) (size n (bit A)))
    where
      go : (s : Bool) → cond s (choice r A B) nothing ≡ better n r nothing (cond s (split A B) none)
      go true = refl
      go false = refl
  spare_better (choice q C D) (split A B) =
      go (ltb (size n (bit C) + r) (size n (bit A) + q)) (ltb (low + q) (size n (bit C)))
      (ltb (low + r) (size n (bit A))) refl refl refl
    where
      go : (t p s : Bool) → ltb (size n (bit C) + r) (size n (bit A) + q) ≡ t → ltb (low + q) (size n (bit C)) ≡ p
          → ltb (low + r) (size n (bit A)) ≡ s
          → sparing n low (cond t (choice r A B) (choice q C D))
          ≡ better n r (cond p (choice q C D) nothing) (cond s (split A B) none)
      go true true true t p s = cc
      go true true false t p s = absurd (omega (arith, ltb-true, ltb-false))
      go true false true t p s = cc
      go true false false t p s = cc
      go false true true t p s = cc
      go false true false t p s = cc
      go false false true t p s = absurd (omega (arith, ltb-true, ltb-false))
      go false false false t p s = cc

-- ---- beside a choice made
module _ (n r low q C D : ℕ) where
  -- what doesn't beat it may be left out
  unbeaten : (f : ℕ) → f + q ≤ size n (bit C) + r → (a : Answer) → better n r (choice q C D) (above n f a)
      ≡ better n r (choice q C D) a
  unbeaten f h none = refl
  unbeaten f h (split A B) = elim (dec_lt f (size n (bit A))) [
    | yes l ↦ ap (better n r (choice q C D)) (is_above n f A B l)
    | no l ↦ ap (better n r (choice q C D)) (not-above n f A B (omega arith))
        ∙ sym (ap (λ (t : Bool). cond t (choice r A B) (choice q C D))
        (le-ltb (size n (bit C) + r) (size n (bit A) + q) (omega arith)))
  ]

  pub floor_beside : low + q < size n (bit C) → Floor n r low (choice q C D) (size n (bit C) - q + r)
  floor_beside h = record {
    least = omega arith;
    enough = λ a. unbeaten (size n (bit C) - q + r) (omega arith) a ∙ sym (unbeaten (low + r) (omega arith) a);
  }

-- ---- the best over r
module _ (n K : ℕ) (F : ℕ → Bool) where
  -- every split has more than r own inputs
  pub spare_all : (m : ℕ) → sparing n 0 (best_up_to n F K m) ≡ best_up_to n F K m
  spare_all m = go (best_up_to n F K m) refl
    where
      go : (c : Choice) → best_up_to n F K m ≡ c → sparing n 0 c ≡ c
      go nothing e = refl
      go (choice r A B) e = is_sparing n 0 r A B (omega (arith, ((upto_best n K F m r A B).0 e).works.candidate.more))

  -- one r more
  pub one_more : (r : ℕ) → 1 ≤ r → better n r (best_up_to n F K (r - 1)) (best n r F K) ≡ best_up_to n F K r
  unfolding first_over
  one_more zero h = absurd (omega arith)
  one_more (suc k) h = let e : suc k - 1 ≡ k = omega arith
      in ap (λ (i : ℕ). better n (suc k) (best_up_to n F K i) (best n (suc k) F K)) e

  module _ (m r A B : ℕ) (w : Whole n K m F r A B) where
    pub fits : Splits n K r F r A B
    fits = let b = best_split n r F K A B w.answer
        in record { some = w.some; most = omega arith; candidate = b.candidate; possible = b.possible }

    pub whole_more : r < K
    whole_more = omega (arith, w.whole, fits.candidate.more)

    -- fewer first cells are of use only where they spare as much
    fewer : (c : Choice) → better n r (sparing n (K - r - 1) c) (split A B) ≡ better n r c (split A B)
    fewer nothing = refl
    fewer (choice q C D) = elim (dec_lt (K - r - 1 + q) (size n (bit C))) [
      | yes l ↦ ap (λ (c : Choice). better n r c (split A B)) (is_sparing n (K - r - 1) q C D l)
      | no l ↦ ap (λ (c : Choice). better n r c (split A B)) (not-sparing n (K - r - 1) q C D (omega arith))
          ∙ sym (ap (λ (t : Bool). cond t (choice r A B) (choice q C D))
          (lt-ltb (size n (bit C) + r) (size n (bit A) + q) (omega (arith, w.whole, whole_more))))
    ]

    -- more of them spare less
    more : best_up_to n F K r ≡ best_up_to n F K m
    more = go (best_up_to n F K r) refl
      where
        go : (c : Choice) → best_up_to n F K r ≡ c → c ≡ best_up_to n F K m
        go nothing e = absurd ((upto_none n K F r).0 e r A B fits)
        go (choice q C D) e = let b = (upto_best n K F r q C D).0 e in let b' = b.works in
            sym ((upto_best n K F m q C D).1 (record {
              works = record {
                some = b'.some;
                most = omega (arith, b'.most, w.most);
                candidate = b'.candidate;
                possible = b'.possible;
              };
              ahead = λ r' A' B' k. elim (dec_lt r r') [
                | yes l ↦ smaller n (omega (arith, (b.ahead r A B fits).largest, w.whole, k.candidate.most))
                | no l ↦ b.ahead r' A' B' (record {
                  some = k.some;
                  most = omega arith;
                  candidate = k.candidate;
                  possible = k.possible;
                })
              ];
            }))

    pub whole_best : better n r (sparing n (K - r - 1) (best_up_to n F K (r - 1))) (split A B) ≡ best_up_to n F K m
    whole_best =
        fewer (best_up_to n F K (r - 1)) ∙ ap (better n r (best_up_to n F K (r - 1))) (sym w.answer)
        ∙ one_more r w.some ∙ more
