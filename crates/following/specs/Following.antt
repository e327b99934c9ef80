-- Whether a step of kind 0 follows: a conflict is reached.
use Rattle.std.specs.Prelude.{Bool, true, false, cond, ◌&&◌, List, ℕ, zero, suc, ◌/◌, ltb}
use Rattle.bits.specs.Below.{every}
use Rattle.clauses.specs.Variables.{variables}
use Rattle.clauses.specs.Clause.{Question}
use Rattle.clauses.specs.Step.{literals_at, literal_at, hints_at, hint_at, clause_at}
use Rattle.following.specs.declared.open.Open.{Open}
use Rattle.following.specs.declared.open.Open.TheVariants.{Nothing, One, Several}
use Rattle.following.specs.Values.{not_set, is_true, is_false, is_open, opposite, made, open_in}

-- how far it has come: a conflict, or the variables that are set
pub data Following : Type 0 where
  conflict : Following
  going : (ℕ → ℕ) → Following

-- a literal of the step: if it is true by now there is a conflict; else it is made false
abbrev pub denying : ℕ → Following → Following
denying l conflict = conflict
denying l (going σ) =
    cond (is_true σ l) conflict (cond (is_false σ l) (going σ) (going (made σ (opposite l))))

-- the clause of a hint: if all is false there is a conflict; if all but one is, and that one isn't set, it is made true
abbrev pub by_open : (ℕ → ℕ) → Open → Following
by_open σ Nothing = conflict
by_open σ (One l) = cond (is_open σ l) (going (made σ l)) (going σ)
by_open σ Several = going σ

abbrev pub hinting : List ℕ → Following → Following
hinting ls conflict = conflict
hinting ls (going σ) = by_open σ (open_in σ ls)

-- after the first k literals
unfoldable pub denied : (ℕ → ℕ) → ℕ → Following
denied literal zero = going not_set
denied literal (suc k) = denying (literal k) (denied literal k)

-- and after the first k hints
unfoldable pub used : (ℕ → List ℕ) → Following → ℕ → Following
used hinted f zero = f
used hinted f (suc k) = hinting (hinted k) (used hinted f k)

abbrev pub is_conflict : Following → Bool
is_conflict conflict = true
is_conflict (going σ) = false

module _ (q : Question) (c : List ℕ) (at : ℕ) where
  unfoldable pub follows : Bool
  follows = is_conflict (used (λ k. clause_at q c (hint_at c at k)) (denied (literal_at c at) (literals_at c at))
      (hints_at c at))

  -- each literal's variable is below V
  unfoldable pub literals_named : Bool
  literals_named = every (literals_at c at) (λ k. ltb (literal_at c at k / 2) (variables q.size))

  -- each hint is the place at which an earlier step begins
  unfoldable pub hints_earlier : (ℕ → Bool) → Bool
  hints_earlier begun = every (hints_at c at) (λ k. begun (hint_at c at k))

  -- a step of kind 0 is in order, its length apart
  abbrev pub derived_in_order : (ℕ → Bool) → Bool
  derived_in_order begun = literals_named && (hints_earlier begun && follows)
