-- A certificate that is accepted shows what it says: its clauses are true in a network of m cells that is in order, the
-- empty one among them, so there is no such network, and none of fewer cells. Assumes nothing.
use mathlib.Core.Path.{◌≡◌, refl, sym, ap, ◌∙◌}
use mathlib.Core.Bool.{Bool, true, false, cond, ◌&&◌, ◌||◌}
use mathlib.Core.List.{List, map}
use Prim.Native.Nat.{ℕ, zero, suc, ◌+◌, ◌*◌, ◌^◌, ◌<◌, ◌≤◌}
use native.Mathlib.Omega.{arith}
use lib.Dec.{ltb, leb, eqb}
use lib.ListN.{length}
use borrow.Author.Tests.{ltb-true, eqb-true}
use Rattle.bits.specs.Below.{every}
use Rattle.bits.specs.Lists.{list_of}
use Rattle.bits.proofs.Bools.{clash, and_left, and_right}
use Rattle.bits.proofs.Below.{every_at}
use Rattle.tables.specs.Table.{table_bit}
use Rattle.sheets.specs.Network.{Carries}
use Rattle.networks.specs.Sorted.{Sorted}
use Rattle.networks.proofs.Sorting.{all_sorted}
use Rattle.clauses.specs.declared.given.Given.{Given}
use Rattle.clauses.specs.Variables.{literal_of}
use Rattle.clauses.specs.Clause.{Question, clause, in_order}
use Rattle.clauses.specs.Step.{rows_in, row_at, asked, kind_at, literals_at, literal_at, hints_at, hint_at, given_at}
use Rattle.clauses.specs.Step.{step_length, clause_at}
use Rattle.following.specs.Following.{follows, literals_named, hints_earlier, derived_in_order}
use Rattle.refuting.specs.Steps.{most_rows, header_in_order, Shown, shown, not_shown, step_in_order, also_at, is_empty, ended}
use Rattle.refuting.specs.Steps.{steps, all_steps, outcome_of}
use Rattle.truths.specs.Meaning.{means, some_true}
use Rattle.truths.proofs.EachKind.{kind_true}
use Rattle.truths.proofs.Numbering.{numbered, one-says}
use Rattle.truths.proofs.Propagation.{follows_true}

not-shown : {p : ℕ} → not_shown p ≡ shown → ⊥
not-shown e = let z : ◌≡◌ {A = ℕ} 0 1 = cc in omega arith

-- ---- where the clauses of kinds 1 to 14 are true
module _ (q : Question) (c : List ℕ) (τ : ℕ → Bool)
    (given : (g : Given) → in_order q.size q.table g ≡ true
    → some_true τ (map (literal_of q.size) (clause q g)) ≡ true) where
  -- the steps that begin at the places so marked are true
  abbrev Held : (ℕ → Bool) → Type 0
  Held begun = (p : ℕ) → begun p ≡ true → some_true τ (clause_at q c p) ≡ true

  -- so is the next one that is in order
  step_true : (begun : ℕ → Bool) (at : ℕ) → Held begun → step_in_order q c begun at ≡ true
      → some_true τ (clause_at q c at) ≡ true
  unfolding step_in_order clause_at hints_earlier
  step_true begun at held e =
      go (eqb (kind_at c at) 0) (and_right (leb (at + step_length c at) (length c)) order
      (and_right (leb 1 (step_length c at)) (leb (at + step_length c at) (length c) && order) e))
    where
      order : Bool
      order = cond (eqb (kind_at c at) 0) (derived_in_order q c at begun) (in_order q.size q.table (given_at c at))

      go : (t : Bool) → cond t (derived_in_order q c at begun) (in_order q.size q.table (given_at c at)) ≡ true
          → some_true τ (cond t (list_of (literals_at c at) (literal_at c at))
          (map (literal_of q.size) (clause q (given_at c at)))) ≡ true
      go true e =
          let r = and_right (literals_named q c at) (hints_earlier q c at begun && follows q c at) e in
          follows_true τ q c at
          (λ k l. held (hint_at c at k) (every_at (hints_at c at) (λ k. begun (hint_at c at k))
          (and_left (hints_earlier q c at begun) (follows q c at) r) k l))
          (and_right (hints_earlier q c at begun) (follows q c at) r)
      go false e = given (given_at c at) e

  -- and it is no empty clause
  not-empty : (at : ℕ) → some_true τ (clause_at q c at) ≡ true → is_empty q c at ≡ true → ⊥
  unfolding clause_at list_of
  not-empty at t e =
      let a = and_left (eqb (kind_at c at) 0) (eqb (literals_at c at) 0) e in
      let b = eqb-true (literals_at c at) 0 (and_right (eqb (kind_at c at) 0) (eqb (literals_at c at) 0) e) in
      clash (sym (ap (λ (k : ℕ). some_true τ (list_of k (literal_at c at))) b)
      ∙ ap (λ (t : Bool). some_true τ (cond t (list_of (literals_at c at) (literal_at c at))
      (map (literal_of q.size) (clause q (given_at c at))))) (sym a) ∙ t) refl

  also_held : (begun : ℕ → Bool) (at : ℕ) → Held begun → some_true τ (clause_at q c at) ≡ true
      → Held (also_at q c at begun)
  also_held begun at held t p = go (eqb p at) refl
    where
      go : (b : Bool) → eqb p at ≡ b → (b || begun p) ≡ true → some_true τ (clause_at q c p) ≡ true
      go true e r = ap (λ (p : ℕ). some_true τ (clause_at q c p)) (eqb-true p at e) ∙ t
      go false e r = held p r

  not-ended : (empty : Bool) → (empty ≡ true → ⊥) → ended q c empty ≡ shown → ⊥
  not-ended true full e = full refl
  not-ended false full e = not-shown e

  never_shown : (k at : ℕ) (begun : ℕ → Bool) (empty : Bool) → Held begun → (empty ≡ true → ⊥)
      → steps q c k at begun empty ≡ shown → ⊥
  unfolding steps
  never_shown zero at begun empty held full e = not-ended empty full e
  never_shown (suc k) at begun empty held full e =
      go (ltb at (length c)) (step_in_order q c begun at) refl
      (never_shown k (at + step_length c at) (also_at q c at begun) (is_empty q c at)) e
    where
      rest : Shown
      rest = steps q c k (at + step_length c at) (also_at q c at begun) (is_empty q c at)

      go : (s t : Bool) → step_in_order q c begun at ≡ t
          → (Held (also_at q c at begun) → (is_empty q c at ≡ true → ⊥) → rest ≡ shown → ⊥)
          → cond s (cond t rest (not_shown at)) (ended q c empty) ≡ shown → ⊥
      go true true o ih e =
          let r = step_true begun at held o in ih (also_held begun at held r) (not-empty at r) e
      go true false o ih e = not-shown e
      go false t o ih e = not-ended empty full e

-- ---- the theorem

-- an accepted certificate's header is in order, so its rows are assignments
header_rows : (n : ℕ) (c : List ℕ) → header_in_order n c ≡ true → (a : ℕ) → a < rows_in c → row_at c a < 2 ^ n
unfolding header_in_order
header_rows n c e a l =
    let x = every (rows_in c) (λ a. ltb (row_at c a) (2 ^ n)) in
    let y = leb (2 + 2 * rows_in c) (length c) in
    let z = leb (rows_in c) most_rows in
    ltb-true (row_at c a) (2 ^ n) (every_at (rows_in c) (λ a. ltb (row_at c a) (2 ^ n))
    (and_right y x (and_right z (y && x) (and_right (leb 1 (rows_in c)) (z && (y && x)) e))) a l)

-- no network of m cells or fewer carries the table
pub too_few : (n K m : ℕ) (t c : List ℕ) → 1 ≤ K → outcome_of n (asked n K m t c) c ≡ shown → (k : ℕ) → k ≤ m
    → Carries n K k (table_bit t) → ⊥
too_few n K m t c one e k l C = go (header_in_order n c) refl e
  where
    q : Question
    q = asked n K m t c

    refuted : header_in_order n c ≡ true → Sorted n K m (table_bit t) → all_steps (asked n K m t c) c ≡ shown → ⊥
    refuted o S e =
        let h = means n (table_bit t) (row_at c) S.used.cells in
        never_shown q c (numbered q.size h)
        (λ g r. one-says q.size h (clause q g) (kind_true q S (header_rows n c o) g r)) (length c) (2 + 2 * rows_in c)
        (λ p. false) false (λ p r. absurd (clash r refl)) (λ r. clash r refl) e

    go : (b : Bool) → header_in_order n c ≡ b → cond b (all_steps (asked n K m t c) c) (not_shown 0) ≡ shown → ⊥
    go true o e = refuted o (all_sorted n K k m (table_bit t) one C l) e
    go false o e = not-shown e
