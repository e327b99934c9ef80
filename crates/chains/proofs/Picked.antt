-- Signals picked: a member's signal stands at its number, and to pick among the picked is to pick once. Assumes
-- nothing.
use mathlib.Core.Path.{◌≡◌, refl, sym, ap, ap₂, ◌∙◌}
use mathlib.Core.Logic.{⊎_elim}
use mathlib.Core.Bool.{Bool, true, false, cond}
use mathlib.Core.List.{List, [], ◌∷◌, ◌++◌}
use Prim.Native.Nat.{ℕ, zero, suc, ◌+◌, ◌<◌, ◌≤◌}
use native.Mathlib.Nat.{not-suc-le-zero, add-zero}
use native.Mathlib.Numerals.{add-one}
use native.Mathlib.Omega.{arith}
use lib.ListN.{length, get_or, get_or-append}
use lib.Seq.{get_or-append_seam}
use Rattle.bits.specs.Numbers.{val}
use Rattle.bits.specs.Sets.{size}
use Rattle.bits.proofs.Bools.{clash}
use Rattle.bits.proofs.Below.{below_suc}
use Rattle.bits.proofs.Sizes.{size-lt}
use Rattle.chains.specs.Chain.{pick}
use Rattle.chains.proofs.Lists.{pick-length}

-- a member's signal stands at its number among the members
pub pick_at : (n : ℕ) (s : ℕ → Bool) (l : List ℕ) (p : ℕ) → p < n → s p ≡ true → get_or (pick n s l) (size p s) 0
    ≡ get_or l p 0
unfolding pick
pick_at zero s l p h e = absurd (not-suc-le-zero h)
pick_at (suc n) s l p h e = ⊎_elim (λ q. old q (s n) (pick_at n s l p q e)) (λ q. new q (s n) (ap s (sym q) ∙ e))
    (below_suc h)
  where
    old : p < n → (t : Bool) → get_or (pick n s l) (size p s) 0 ≡ get_or l p 0
        → get_or (cond t (pick n s l ++ (get_or l n 0 ∷ [])) (pick n s l)) (size p s) 0 ≡ get_or l p 0
    old q true ih = get_or-append (pick n s l) (get_or l n 0 ∷ []) 0 (size p s)
        (omega (arith, pick-length n s l, size-lt n s p q e)) ∙ ih
    old q false ih = ih

    new : p ≡ n → (t : Bool) → t ≡ true → get_or (cond t (pick n s l ++ (get_or l n 0 ∷ [])) (pick n s l)) (size p s) 0
        ≡ get_or l p 0
    new q true f =
        ap (λ (j : ℕ). get_or (pick n s l ++ (get_or l n 0 ∷ [])) j 0)
        (ap (λ (j : ℕ). size j s) q ∙ sym (pick-length n s l))
        ∙ get_or-append_seam (pick n s l) (get_or l n 0) [] 0 ∙ ap (λ (j : ℕ). get_or l j 0) (sym q)
    new q false f = absurd (clash f refl)

-- what stands behind does not matter
pick_front : (n : ℕ) (s : ℕ → Bool) (l m : List ℕ) → n ≤ length l → pick n s (l ++ m) ≡ pick n s l
unfolding pick
pick_front zero s l m h = refl
pick_front (suc n) s l m h =
    ap₂ (λ (r : List ℕ) (x : ℕ). cond (s n) (r ++ (x ∷ [])) r) (pick_front n s l m (omega arith))
    (get_or-append l m 0 n h)

pub pick-pick : (n : ℕ) (S s t : ℕ → Bool) (l : List ℕ) → ((j : ℕ) → j < n → S j ≡ true → s j ≡ t (size j S))
    → ((j : ℕ) → j < n → s j ≡ true → S j ≡ true)
    → pick (size n S) t (pick n S l) ≡ pick n s l
unfolding pick size
pick-pick zero S s t l m inside = refl
pick-pick (suc n) S s t l m inside = go (S n) refl
    (pick-pick n S s t l (λ j h. m j (omega arith)) (λ j h. inside j (omega arith)))
  where
    x : ℕ
    x = get_or l n 0

    go : (u : Bool) → S n ≡ u → pick (size n S) t (pick n S l) ≡ pick n s l
        → pick (size n S + val u) t (cond u (pick n S l ++ (get_or l n 0 ∷ [])) (pick n S l))
        ≡ cond (s n) (pick n s l ++ (get_or l n 0 ∷ [])) (pick n s l)
    go true e ih =
        ap (λ (k : ℕ). pick k t (pick n S l ++ (x ∷ []))) (add-one (size n S))
        ∙ ap₂ (λ (r : List ℕ) (y : ℕ). cond (t (size n S)) (r ++ (y ∷ [])) r)
        (pick_front (size n S) t (pick n S l) (x ∷ []) (omega (arith, pick-length n S l))
        ∙ ih)
        (ap (λ (j : ℕ). get_or (pick n S l ++ (x ∷ [])) j 0) (sym (pick-length n S l))
        ∙ get_or-append_seam (pick n S l) x [] 0)
        ∙ ap (λ (b : Bool). cond b (pick n s l ++ (x ∷ [])) (pick n s l)) (sym (m n (omega arith) e))
    go false e ih = ap (λ (k : ℕ). pick k t (pick n S l)) (add-zero (size n S)) ∙ ih ∙ out (s n) refl
      where
        out : (b : Bool) → s n ≡ b → pick n s l ≡ cond b (pick n s l ++ (x ∷ [])) (pick n s l)
        out true q = absurd (clash (inside n (omega arith) q) e)
        out false q = refl
