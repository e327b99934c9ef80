-- The clause of an earlier step: where it is read, and that its variables are below V. Assumes nothing.
use mathlib.Core.Path.{◌≡◌, refl, sym, ap, subst, ◌∙◌}
use mathlib.Core.Bool.{Bool, true, false, cond}
use mathlib.Core.List.{List, [], ◌∷◌, ◌++◌, map}
use Prim.Native.Nat.{ℕ, zero, suc, ◌-◌, ◌/◌, ◌%◌, ◌<◌}
use native.Mathlib.Decide.{ℕ_discrete}
use native.Mathlib.Omega.{arith}
use lib.Dec.{eqb}
use borrow.Author.Tests.{eq-eqb, ne_eqb}
use Rattle.bits.specs.Lists.{byte_at, list_of}
use Rattle.clauses.specs.declared.variables.Size.{Size}
use Rattle.clauses.specs.declared.variables.Literal.{Literal}
use Rattle.clauses.specs.declared.task.Task.{Task}
use Rattle.clauses.specs.Variables.{literal_of, variables}
use Rattle.clauses.specs.Clause.{Question, clause}
use Rattle.clauses.specs.Step.{kind_at, given_at, literals_at, literal_at, clause_at}
use Rattle.clauses.specs.Asking.{question_of, clause_of}
use Rattle.clauses.specs.Shapes.{AllNamed}
use Rattle.clauses.proofs.Naming.{named, literal_below}
use Rattle.following.specs.declared.open.Open.{Open}
use Rattle.following.specs.declared.open.Open.TheVariants.{Nothing, One, Several}
use Rattle.following.specs.Values.{is_false, one_more, seen, open_after, open_in}
use Rattle.following.specs.Standing.{CanUse}

module _ (q : Question) (c : List ℕ) (at : ℕ) where
  pub clause_derived : kind_at c at ≡ 0 → clause_at q c at ≡ list_of (literals_at c at) (literal_at c at)
  unfolding clause_at
  clause_derived h = ap (λ (t : Bool). cond t (list_of (literals_at c at) (literal_at c at))
      (map (literal_of q.size) (clause q (given_at c at)))) (eq-eqb (kind_at c at) 0 h)

  pub clause-given : (kind_at c at ≡ 0 → ⊥) → clause_at q c at ≡ map (literal_of q.size) (clause q (given_at c at))
  unfolding clause_at
  clause-given h = ap (λ (t : Bool). cond t (list_of (literals_at c at) (literal_at c at))
      (map (literal_of q.size) (clause q (given_at c at)))) (ne_eqb (kind_at c at) 0 h)

-- every literal of a clause is of a variable below `all`
abbrev pub AllBelow : ℕ → List ℕ → Type 0
AllBelow all [] = Unit {0}
AllBelow all (l ∷ ls) = (l / 2 < all) × AllBelow all ls

module _ (all : ℕ) where
  below_append : (l m : List ℕ) → AllBelow all l → AllBelow all m → AllBelow all (l ++ m)
  below_append [] m h k = k
  below_append (x ∷ l) m h k = (h.0, below_append l m h.1 k)

  below_list : (n : ℕ) (f : ℕ → ℕ) → ((j : ℕ) → j < n → f j / 2 < all) → AllBelow all (list_of n f)
  unfolding list_of
  below_list zero f h = tt
  below_list (suc n) f h = below_append (list_of n f) (f n ∷ []) (below_list n f (λ j l. h j (omega arith)))
      (h n (omega arith), tt)

  -- two ways to set variables that agree below `all` leave the same open
  pub open_agree : (σ τ : ℕ → ℕ) → ((v : ℕ) → v < all → σ v ≡ τ v) → (o : Open) (ls : List ℕ) → AllBelow all ls
      → open_after σ o ls ≡ open_after τ o ls
  unfolding open_after
  open_agree σ τ e o [] h = refl
  open_agree σ τ e o (l ∷ ls) h =
      ap (λ (v : ℕ). open_after σ (cond (eqb v (2 - l % 2)) o (one_more l o)) ls) (e (l / 2) h.0)
      ∙ open_agree σ τ e (seen τ l o) ls h.1

  -- what is left open is one of the literals
  pub open_one : (σ : ℕ → ℕ) (o : Open) (ls : List ℕ) (l : ℕ) → ((k : ℕ) → o ≡ One k → k / 2 < all) → AllBelow all ls
      → open_after σ o ls ≡ One l → l / 2 < all
  unfolding open_after
  open_one σ o [] l p h e = p l e
  open_one σ o (x ∷ ls) l p h e = open_one σ (seen σ x o) ls l (λ k d. go (is_false σ x) o p k d) h.1 e
    where
      more : (o : Open) (k : ℕ) → one_more x o ≡ One k → k / 2 < all
      more Nothing k d = let z : x ≡ k = cc in omega (arith, h.0)
      more (One j) k d = let z : ◌≡◌ {A = ℕ} 0 1 = cc in omega arith
      more Several k d = let z : ◌≡◌ {A = ℕ} 0 1 = cc in omega arith

      go : (t : Bool) (o : Open) → ((k : ℕ) → o ≡ One k → k / 2 < all) → (k : ℕ) → cond t o (one_more x o) ≡ One k
          → k / 2 < all
      go true o p k d = p k d
      go false o p k d = more o k d

named_below : (z : Size) (ls : List Literal) → AllNamed z ls → AllBelow (variables z) (map (literal_of z) ls)
named_below z [] h = tt
named_below z (l ∷ ls) h = (literal_below z l h.0, named_below z ls h.1)

-- the clause of a step that can be used
pub clause_below : (x : Task) (at : ℕ) → CanUse x at → AllBelow (variables x.size) (clause_of x at)
clause_below x at u = elim (ℕ_discrete (kind_at x.certificate.now at) 0) [
  | yes e ↦ subst (AllBelow (variables x.size)) (sym (clause_derived (question_of x) x.certificate.now at e))
      (below_list (variables x.size) (literals_at x.certificate.now at) (literal_at x.certificate.now at)
      (u.derived e).below)
  | no e ↦ subst (AllBelow (variables x.size)) (sym (clause-given (question_of x) x.certificate.now at e))
      (named_below x.size (clause (question_of x) (given_at x.certificate.now at))
      (named (question_of x) x.sized (given_at x.certificate.now at) (u.given e)))
]

-- what is left open in it
pub open_below : (x : Task) (at : ℕ) → CanUse x at → (work : List ℕ) {o : Open} (l : ℕ)
    → o ≡ open_in (byte_at work) (clause_of x at) → o ≡ One l → l / 2 < variables x.size
open_below x at u work l e h =
    open_one (variables x.size) (byte_at work) Nothing (clause_of x at) l
    (λ k d. let z : ◌≡◌ {A = ℕ} 0 1 = cc in omega arith) (clause_below x at u) (sym e ∙ h)
