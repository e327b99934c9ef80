-- What is open in a clause, literal by literal. Assumes nothing.
use mathlib.Core.Path.{◌≡◌, refl, sym, ap, ap₂, ◌∙◌}
use mathlib.Core.Bool.{Bool, true, false, cond, not, beq}
use mathlib.Core.List.{List, [], ◌∷◌, ◌++◌, map, map-append}
use Prim.Native.Nat.{ℕ, ◌+◌, ◌/◌, ◌^◌}
use lib.Bits.{bit_and}
use native.Mathlib.Numerals.{add-one}
use lib.Dec.{eqb}
use Rattle.bits.specs.Numbers.{bit, val}
use Rattle.bits.specs.Lists.{list_of}
use Rattle.bits.proofs.Building.{bit-digit}
use Rattle.clauses.specs.declared.variables.Size.{Size}
use Rattle.clauses.specs.declared.variables.Variable.TheVariants.{Reads, Differ, Apart}
use Rattle.clauses.specs.declared.variables.Literal.{Literal}
use Rattle.clauses.specs.declared.variables.Literal.TheVariants.{Said, Denied}
use Rattle.clauses.specs.Variables.{literal_of}
use Rattle.clauses.specs.Clause.{those, rows_differ, causes}
use Rattle.following.specs.declared.open.Open.{Open}
use Rattle.following.specs.declared.open.Open.TheVariants.{Nothing}
use Rattle.following.specs.Values.{seen, open_after}

module _ (σ : ℕ → ℕ) where
  -- a clause and then another
  pub open_append : (o : Open) (l m : List ℕ) → open_after σ o (l ++ m) ≡ open_after σ (open_after σ o l) m
  unfolding open_after
  open_append o [] m = refl
  open_append o (x ∷ l) m = open_append (seen σ x o) l m

  pub open_snoc : (o : Open) (l : List ℕ) (x : ℕ) → open_after σ o (l ++ (x ∷ [])) ≡ seen σ x (open_after σ o l)
  unfolding open_after
  open_snoc o l x = open_append o l (x ∷ [])

  -- one more of a list of a function's values
  module _ {A : Type 0} (f : A → ℕ) (g : ℕ → A) (o : Open) where
    pub open_more : (k : ℕ) {r p : Open} → r ≡ seen σ (f (g k)) p → p ≡ open_after σ o (map f (list_of k g))
        → r ≡ open_after σ o (map f (list_of (k + 1) g))
    unfolding list_of
    open_more k {r} {p} e h =
        e ∙ ap (seen σ (f (g k))) h
        ∙ sym (ap (λ (m : ℕ). open_after σ o (map f (list_of m g))) (add-one k)
        ∙ ap (open_after σ o) (map-append f (list_of k g) (g k ∷ []))
        ∙ open_snoc o (map f (list_of k g)) (f (g k)))

    -- and of those at which something holds
    pub open_those : (s : ℕ → Bool) (k : ℕ) {t : Bool} {r p : Open} → r ≡ cond t (seen σ (f (g k)) p) p → t ≡ s k
        → p ≡ open_after σ o (map f (those k s g)) → r ≡ open_after σ o (map f (those (k + 1) s g))
    unfolding those
    open_those s k {t} {r} {p} e d h =
        go t e d ∙ sym (ap (λ (m : ℕ). open_after σ o (map f (those m s g))) (add-one k))
      where
        go : (t : Bool) → r ≡ cond t (seen σ (f (g k)) p) p → t ≡ s k
            → r ≡ open_after σ o (map f (cond (s k) (those k s g ++ (g k ∷ [])) (those k s g)))
        go true e d =
            e ∙ ap (seen σ (f (g k))) h
            ∙ sym (ap (λ (b : Bool). open_after σ o (map f (cond b (those k s g ++ (g k ∷ [])) (those k s g)))) (sym d)
            ∙ ap (open_after σ o) (map-append f (those k s g) (g k ∷ []))
            ∙ open_snoc o (map f (those k s g)) (f (g k)))
        go false e d =
            e ∙ h
            ∙ sym (ap (λ (b : Bool). open_after σ o (map f (cond b (those k s g ++ (g k ∷ [])) (those k s g)))) (sym d))

-- the same of a list of numbers
pub open_next : (σ : ℕ → ℕ) (g : ℕ → ℕ) (o : Open) (k : ℕ) {r p : Open} → r ≡ seen σ (g k) p
    → p ≡ open_after σ o (list_of k g) → r ≡ open_after σ o (list_of (k + 1) g)
unfolding list_of
open_next σ g o k {r} {p} e h =
    e ∙ ap (seen σ (g k)) h
    ∙ sym (ap (λ (m : ℕ). open_after σ o (list_of m g)) (add-one k) ∙ open_snoc σ o (list_of k g) (g k))

-- two rows differ at an input, as the machine asks it
pub differ_is : (x y p : ℕ) {X Y : ℕ} → x ≡ X → y ≡ Y
    → not (eqb (bit_and (x / 2 ^ p) 1) (bit_and (y / 2 ^ p) 1)) ≡ not (beq (bit X p) (bit Y p))
differ_is x y p {X} {Y} e d =
    ap₂ (λ (a b : ℕ). not (eqb a b)) (bit-digit x p) (bit-digit y p) ∙ ap not (go (bit x p) (bit y p))
    ∙ ap₂ (λ (a b : ℕ). not (beq (bit a p) (bit b p))) e d
  where
    go : (a b : Bool) → eqb (val a) (val b) ≡ beq a b
    go true true = refl
    go true false = refl
    go false true = refl
    go false false = refl

-- why a cell differs: the cell itself, the inputs, the cells
pub causes_are : (σ : ℕ → ℕ) (z : Size) (row : ℕ → ℕ) (i a b : ℕ) {p q r : Open}
    → p ≡ seen σ (literal_of z (Denied (Differ i a b))) Nothing
    → q ≡ open_after σ p (map (literal_of z) (those z.inputs (rows_differ row a b) (λ k. Said (Reads i k))))
    → r ≡ open_after σ q (map (literal_of z) (list_of i (λ j. Said (Apart i j a b))))
    → r ≡ open_after σ Nothing (map (literal_of z) (causes z row i a b))
unfolding open_after
causes_are σ z row i a b {p} {q} {r} e d f =
    f ∙ ap (λ (o : Open). open_after σ o (map (literal_of z) m)) (d ∙ ap (λ (o : Open). open_after σ o (map (literal_of z) l)) e)
    ∙ sym (ap (open_after σ (seen σ (literal_of z (Denied (Differ i a b))) Nothing)) (map-append (literal_of z) l m)
    ∙ open_append σ (seen σ (literal_of z (Denied (Differ i a b))) Nothing) (map (literal_of z) l) (map (literal_of z) m))
  where
    l : List Literal
    l = those z.inputs (rows_differ row a b) (λ k. Said (Reads i k))

    m : List Literal
    m = list_of i (λ j. Said (Apart i j a b))
