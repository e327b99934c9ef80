-- Keep the shorter of two sheets: what is claimed of it, over any edition, each sheet being for its own desk. Assumes
-- nothing.
use mathlib.Core.Path.{◌≡◌, refl, sym, ap, ◌∙◌, subst}
use mathlib.Core.Logic.{◌↔◌, ◌⊎◌, inl, inr}
use mathlib.Core.Bool.{Bool, true, false, cond}
use mathlib.Core.List.{List, []}
use Prim.Native.Nat.{ℕ, ◌<◌, ◌≤◌}
use native.Mathlib.Omega.{arith}
use lib.Dec.{leb}
use borrow.Author.Tests.{leb-true, leb-false}
use Rattle.sheets.specs.declared.kinds.Edition.{Edition}
use Rattle.sheets.specs.Sheet.{records}
use Rattle.sheets.specs.Desk.{desk_of}
use Rattle.refusals.specs.Verdicts.{Refusal, Verdict, Fine, Refused}
use Rattle.refusals.specs.Lines.{number_of}
use Rattle.refusals.proofs.Lines.{not_fine, another}
use Rattle.inspection.specs.CheckSheet.{check_lines, check_outcome, check_own}
use Rattle.comparing.specs.Shorter.{Kept, which_kept, kept_outcome, part_of, shorter_outcome, Shortest}

-- the three ways it can go, by the verdicts a and b and the numbers of records i and j: which is kept, and what the
-- call beside says
data Goes (a b : Verdict) (i j : ℕ) : ℕ → Verdict → Type 0 where
  first : a ≡ Fine → (b ≡ Fine → i ≤ j) → Goes a b i j 1 Fine
  second : b ≡ Fine → (a ≡ Fine → j < i) → Goes a b i j 2 Fine
  neither : (r s : Refusal) → a ≡ Refused r → b ≡ Refused s → Goes a b i j 0 (Refused r)

goes : (a b : Verdict) (i j : ℕ) → Goes a b i j (which_kept a b i j).which (which_kept a b i j).verdict
goes Fine Fine i j = go (leb i j) refl
  where
    go : (t : Bool) → leb i j ≡ t → Goes Fine Fine i j (cond t 1 2) Fine
    go true q = first refl (λ h. leb-true i j q)
    go false q = second refl (λ h. leb-false i j q)
goes Fine (Refused s) i j = first refl (λ h. absurd (not_fine s (sym h)))
goes (Refused r) Fine i j = second refl (λ h. absurd (not_fine r (sym h)))
goes (Refused r) (Refused s) i j = neither r s refl refl

-- both refused is not one accepted
not-one : {a b : Verdict} (r s : Refusal) → a ≡ Refused r → b ≡ Refused s → (a ≡ Fine) ⊎ (b ≡ Fine) → ⊥
not-one r s p q (inl h) = not_fine r (sym h ∙ p)
not-one r s p q (inr h) = not_fine s (sym h ∙ q)

is_first : {a b : Verdict} {i j k : ℕ} {v : Verdict} → Goes a b i j k v → (k ≡ 1) ↔ ((a ≡ Fine) × (b ≡ Fine → i ≤ j))
is_first (first p q) = (λ h. (p, q), λ h. refl)
is_first (second p q) = (λ h. absurd (omega (arith, h)), λ h. absurd (omega (arith, q h.0, h.1 p)))
is_first (neither r s p q) = (λ h. absurd (omega (arith, h)), λ h. absurd (not_fine r (sym h.0 ∙ p)))

is_second : {a b : Verdict} {i j k : ℕ} {v : Verdict} → Goes a b i j k v → (k ≡ 2) ↔ ((b ≡ Fine) × (a ≡ Fine → j < i))
is_second (first p q) = (λ h. absurd (omega (arith, h)), λ h. absurd (omega (arith, q h.0, h.1 p)))
is_second (second p q) = (λ h. (p, q), λ h. refl)
is_second (neither r s p q) = (λ h. absurd (omega (arith, h)), λ h. absurd (not_fine s (sym h.0 ∙ q)))

is_neither : {a b : Verdict} {i j k : ℕ} {v : Verdict} → Goes a b i j k v → (a ≡ Fine → ⊥) → (b ≡ Fine → ⊥) → (k ≡ 0)
    × (v ≡ a)
is_neither (first p q) f g = absurd (f p)
is_neither (second p q) f g = absurd (g p)
is_neither (neither r s p q) f g = (refl, sym p)

is_done : {a b : Verdict} {i j k : ℕ} {v : Verdict} → Goes a b i j k v
    → ((r : Refusal) → a ≡ Refused r → r.number ≡ 0 → ⊥) → (number_of v ≡ 0) ↔ ((a ≡ Fine) ⊎ (b ≡ Fine))
is_done (first p q) f = (λ h. inl p, λ h. refl)
is_done (second p q) f = (λ h. inr p, λ h. refl)
is_done (neither r s p q) f = (λ h. absurd (f r p h), λ h. absurd (not-one r s p q h))

module _ (e : Edition) (n : ℕ) (t x y : List ℕ) where
  went : Goes (check_own e n t x) (check_own e n t y) (records e x) (records e y) (kept_outcome e n t x y).which
      (kept_outcome e n t x y).verdict
  unfolding kept_outcome
  went = goes (check_own e n t x) (check_own e n t y) (records e x) (records e y)

  -- what holds of the first and of the second holds of either
  of-both : (k : ℕ) → (check_own e n t x ≡ Fine → k ≤ records e x) → (check_own e n t y ≡ Fine → k ≤ records e y)
      → (z : List ℕ) → (z ≡ x) ⊎ (z ≡ y)
      → check_own e n t z ≡ Fine → k ≤ records e z
  of-both k f g z (inl p) h = subst (λ (s : List ℕ). k ≤ records e s) (sym p)
      (f (subst (λ (s : List ℕ). check_own e n t s ≡ Fine) p h))
  of-both k f g z (inr p) h = subst (λ (s : List ℕ). k ≤ records e s) (sym p)
      (g (subst (λ (s : List ℕ). check_own e n t s ≡ Fine) p h))

  -- if either is accepted, what is handed back is accepted, and no accepted one of the two has fewer records
  pub shorter_shortest : (check_own e n t x ≡ Fine) ⊎ (check_own e n t y ≡ Fine)
      → Shortest e n t x y (shorter_outcome e n t x y)
  shorter_shortest one = go (kept_outcome e n t x y).which (kept_outcome e n t x y).verdict went
    where
      go : (k : ℕ) (v : Verdict) → Goes (check_own e n t x) (check_own e n t y) (records e x) (records e y) k v
          → Shortest e n t x y (part_of k x y)
      go _ _ (first p q) = record { one = inl refl; accepted = p; fewest = of-both (records e x) (λ h. omega arith) q }
      go _ _ (second p q) = record {
        one = inr refl;
        accepted = p;
        fewest = of-both (records e y) (λ h. omega (arith, q h)) (λ h. omega arith);
      }
      go _ _ (neither r s p q) = absurd (not-one r s p q one)

  -- it is the first exactly if that is accepted, and the second isn't accepted with fewer records
  pub which_first : ((kept_outcome e n t x y).which ≡ 1)
      ↔ ((check_own e n t x ≡ Fine) × (check_own e n t y ≡ Fine → records e x ≤ records e y))
  which_first = is_first went

  -- the second exactly if that is accepted, and the first isn't accepted with as few
  pub which_second : ((kept_outcome e n t x y).which ≡ 2)
      ↔ ((check_own e n t y ≡ Fine) × (check_own e n t x ≡ Fine → records e y < records e x))
  which_second = is_second went

  -- on a tie the first is handed back
  pub shorter_tie : check_own e n t x ≡ Fine → records e x ≡ records e y → shorter_outcome e n t x y ≡ x
  shorter_tie h q = ap (λ (k : ℕ). part_of k x y) (which_first.1 (h, λ a. omega (arith, q)))

  -- where neither is accepted nothing is, and the call beside says what the check says of the first
  pub shorter_neither : (check_own e n t x ≡ Fine → ⊥) → (check_own e n t y ≡ Fine → ⊥)
      → ((kept_outcome e n t x y).which ≡ 0) × ((shorter_outcome e n t x y ≡ [])
      × ((kept_outcome e n t x y).verdict ≡ check_own e n t x))
  shorter_neither f g = let w = is_neither went f g in (w.0, (ap (λ (k : ℕ). part_of k x y) w.0, w.1))

  -- no refusal of the check has the number 0
  numbered : (r : Refusal) → check_own e n t x ≡ Refused r → r.number ≡ 0 → ⊥
  unfolding check_outcome
  numbered r p = another (check_lines e (desk_of e x) n t x) 0 r refl p

  -- the call beside returns 0 exactly when one of them is accepted
  pub beside_done : (number_of (kept_outcome e n t x y).verdict ≡ 0)
      ↔ ((check_own e n t x ≡ Fine) ⊎ (check_own e n t y ≡ Fine))
  beside_done = is_done went numbered

  -- two answers that keep the promise are equal
  pub shorter-once : (s s' : List ℕ) → s ≡ shorter_outcome e n t x y → s' ≡ shorter_outcome e n t x y → s ≡ s'
  shorter-once s s' p q = p ∙ sym q

  -- and so with which, and what the call beside says
  pub kept-once : (k k' : Kept) → k ≡ kept_outcome e n t x y → k' ≡ kept_outcome e n t x y → k ≡ k'
  kept-once k k' p q = p ∙ sym q

  pub beside_once : (v v' : Verdict) → v ≡ (kept_outcome e n t x y).verdict → v' ≡ (kept_outcome e n t x y).verdict
      → v ≡ v'
  beside_once v v' p q = p ∙ sym q
