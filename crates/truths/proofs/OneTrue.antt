-- A clause with a true literal. Assumes nothing.
use mathlib.Core.Path.{◌≡◌, refl, sym, ap, ◌∙◌, subst}
use mathlib.Core.Bool.{Bool, true, false, cond, not}
use mathlib.Core.List.{List, [], ◌∷◌, ◌++◌}
use Prim.Native.Nat.{ℕ, zero, suc, ◌<◌}
use native.Mathlib.Nat.{not-suc-le-zero}
use native.Mathlib.Omega.{arith}
use native.Mathlib.Decide.{dec_lt}
use Rattle.bits.specs.Lists.{list_of}
use Rattle.bits.proofs.Bools.{clash}
use Rattle.clauses.specs.declared.variables.Size.{Size}
use Rattle.clauses.specs.declared.variables.Variable.{Variable}
use Rattle.clauses.specs.declared.variables.Literal.{Literal}
use Rattle.clauses.specs.declared.variables.Literal.TheVariants.{Said, Denied}
use Rattle.clauses.specs.Variables.{Named, variable_of}
use Rattle.clauses.specs.Clause.{those}
use Rattle.truths.specs.Meaning.{is_true}

module _ (z : Size) (h : Variable → Bool) where
  -- one literal at least is true, and what it names exists
  pub data OneTrue : List Literal → Type 0 where
    here : {l : Literal} {ls : List Literal} → Named z (variable_of l) → is_true h l ≡ true → OneTrue (l ∷ ls)
    next : {l : Literal} {ls : List Literal} → OneTrue ls → OneTrue (l ∷ ls)

  pub true_left : (ls ks : List Literal) → OneTrue ls → OneTrue (ls ++ ks)
  true_left [] ks t = elim t [ ]
  true_left (l ∷ ls) ks (here a b) = here a b
  true_left (l ∷ ls) ks (next t) = next (true_left ls ks t)

  pub true_right : (ls ks : List Literal) → OneTrue ks → OneTrue (ls ++ ks)
  true_right [] ks t = t
  true_right (l ∷ ls) ks t = next (true_right ls ks t)

  -- one of the values of f below n
  pub true_list : (n : ℕ) (f : ℕ → Literal) (j : ℕ) → j < n → Named z (variable_of (f j)) → is_true h (f j) ≡ true
      → OneTrue (list_of n f)
  unfolding list_of
  true_list zero f j l a b = absurd (not-suc-le-zero l)
  true_list (suc n) f j l a b = elim (dec_lt j n) [
    | yes g ↦ true_left (list_of n f) (f n ∷ []) (true_list n f j g a b)
    | no g ↦ let e : j ≡ n = omega arith in
        subst (λ (k : ℕ). OneTrue (list_of n f ++ (f k ∷ []))) e (true_right (list_of n f) (f j ∷ []) (here a b))
  ]

  pub true_those : (n : ℕ) (s : ℕ → Bool) (f : ℕ → Literal) (j : ℕ) → j < n → s j ≡ true → Named z (variable_of (f j))
      → is_true h (f j) ≡ true → OneTrue (those n s f)
  unfolding those
  true_those zero s f j l m a b = absurd (not-suc-le-zero l)
  true_those (suc n) s f j l m a b = elim (dec_lt j n) [
    | yes g ↦ old (s n) (true_those n s f j g m a b)
    | no g ↦ let e : j ≡ n = omega arith in new (s n) (ap s (sym e) ∙ m) e
  ]
    where
      old : (t : Bool) → OneTrue (those n s f) → OneTrue (cond t (those n s f ++ (f n ∷ [])) (those n s f))
      old true t = true_left (those n s f) (f n ∷ []) t
      old false t = t

      new : (t : Bool) → t ≡ true → j ≡ n → OneTrue (cond t (those n s f ++ (f n ∷ [])) (those n s f))
      new true m e =
          subst (λ (k : ℕ). OneTrue (those n s f ++ (f k ∷ []))) e (true_right (those n s f) (f j ∷ []) (here a b))
      new false m e = absurd (clash m refl)

  -- a variable is said or denied
  pub either : {P : Type 0} (x : Variable) → (h x ≡ true → P) → (h x ≡ false → P) → P
  either {P} x is isn't = go (h x) refl
    where
      go : (t : Bool) → h x ≡ t → P
      go true e = is e
      go false e = isn't e

  pub said : {x : Variable} {ls : List Literal} → Named z x → h x ≡ true → OneTrue (Said x ∷ ls)
  said a e = here a e

  pub denied : {x : Variable} {ls : List Literal} → Named z x → h x ≡ false → OneTrue (Denied x ∷ ls)
  denied a e = here a (ap not e)
