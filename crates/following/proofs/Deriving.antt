-- A step of kind 0 as a whole. Assumes nothing.
use mathlib.Core.Path.{◌≡◌, sym, ap, ap₂, subst, ◌∙◌}
use mathlib.Core.Bool.{Bool, true, false, ◌&&◌}
use mathlib.Core.List.{List}
use Prim.Native.Nat.{ℕ, ◌+◌, ◌*◌, ◌/◌, ◌<◌, ◌≤◌}
use native.Mathlib.Omega.{arith}
use lib.Dec.{ltb}
use lib.ListN.{length}
use borrow.Author.Tests.{ltb-true}
use Rattle.bits.specs.Below.{every}
use Rattle.bits.proofs.Below.{every_at}
use Rattle.clauses.specs.declared.variables.Size.{Size}
use Rattle.clauses.specs.declared.task.Task.{Task}
use Rattle.clauses.specs.Variables.{variables}
use Rattle.clauses.specs.Step.{four, literals_at, literal_at, hints_at, hint_at, question_in}
use Rattle.clauses.specs.Asking.{question_of, clause_of}
use Rattle.following.specs.declared.trail.Trail.{Trail}
use Rattle.following.specs.Following.{Following, denied, used, is_conflict, follows, literals_named, hints_earlier}
use Rattle.following.specs.Following.{derived_in_order}
use Rattle.following.specs.Standing.{LiteralsIn, AllThere, CanUse, InFront, Trailed, Kept, Stands, Clean, begun_in, IsReady}
use Rattle.following.proofs.Going.{kept_then, conflict_is}

-- the literals of a step that are named
pub named_literals : (z : Size) (t c : List ℕ) (at : ℕ) → AllThere c at → literals_named (question_in z t c) c at ≡ true
    → LiteralsIn (variables z) c at
unfolding literals_named
named_literals z t c at there h = record {
  room = omega arith;
  below = λ k l. ltb-true (literal_at c at k / 2) (variables z) (every_at (literals_at c at)
      (λ j. ltb (literal_at c at j / 2) (variables z)) h k l);
}

-- the numbers that the code reads off a step: L literals, H hints, and `all` variables
module _ (x : Task) (at L H all : ℕ) (ea : all ≡ variables x.size) (el : L ≡ literals_at x.certificate.now at)
    (eh : H ≡ four x.certificate.now (at + 3 + 4 * L)) where
  abbrev pub c : List ℕ
  c = x.certificate.now

  pub hints_are : H ≡ hints_at c at
  hints_are = eh ∙ ap (λ (i : ℕ). four c (at + 3 + 4 * i)) el

  abbrev pub hinted : ℕ → List ℕ
  hinted k = clause_of x (hint_at c at k)

  abbrev pub reached : Following
  reached = used hinted (denied (literal_at c at) L) H

  -- the literals, then the hints
  pub both_go : {from : ℕ} {work mid after : List ℕ} {d r : Trail}
      → Stands all from work (denied (literal_at c at) L) mid d
      → ((before : List ℕ) (f : Following) → Stands (variables x.size) from before f mid d
      → Stands (variables x.size) from before (used hinted f H) after r)
      → Stands (variables x.size) from work reached after r
  both_go {from} {work} {mid} {after} {d} s h =
      h work (denied (literal_at c at) L)
      (subst (λ (a : ℕ). Stands a from work (denied (literal_at c at) L) mid d) ea s)

  pub in_front : {work after : List ℕ} {r : Trail} → Stands (variables x.size) (all + length c) work reached after r
      → InFront (all + length c) r.set after
  in_front s e l = omega (arith, ea, s.trailed.below e l)

  pub follows_is : {from : ℕ} {work after : List ℕ} {r : Trail} → Stands (variables x.size) from work reached after r
      → r.conflict ≡ follows (question_of x) c at
  unfolding follows
  follows_is s =
      conflict_is s
      ∙ ap₂ (λ (i j : ℕ). is_conflict (used hinted (denied (literal_at c at) i) j)) el hints_are

  -- and all is forgotten
  pub all_forgotten : {work after end : List ℕ} {r : Trail}
      → Stands (variables x.size) (all + length c) work reached after r
      → ((v : ℕ) (σ : ℕ → ℕ) → v ≤ all + length c → Trailed v (all + length c) σ r.set after
      → Clean v end × Kept v (all + length c) after end)
      → Clean (variables x.size) end × Kept (variables x.size) (variables x.size + length c) work end
  all_forgotten {work} {after} {end} s h =
      let w = h (variables x.size) s.values (omega (arith, ea)) s.trailed in
      (w.0, subst (λ (a : ℕ). Kept (variables x.size) (a + length c) work end) ea (kept_then s.kept w.1))

  -- ---- in order or not

  module _ (work : List ℕ) (ready : IsReady x work) (there : AllThere c at) where
    abbrev begun : ℕ → Bool
    begun = begun_in (variables x.size) (length c) work

    named_is : {b : Bool} → b ≡ every L (λ k. ltb (literal_at c at k / 2) all) → b ≡ literals_named (question_of x) c at
    unfolding literals_named
    named_is e = e ∙ ap₂ (λ (i a : ℕ). every i (λ k. ltb (literal_at c at k / 2) a)) el ea

    earlier_is : {b : Bool} → b ≡ every H (λ k. begun_in all (length c) work (hint_at c at k))
        → b ≡ hints_earlier (question_of x) c at begun
    unfolding hints_earlier
    earlier_is e = e ∙ ap₂ (λ (i a : ℕ). every i (λ k. begun_in a (length c) work (hint_at c at k))) hints_are ea

    pub not_named : {b : Bool} → b ≡ every L (λ k. ltb (literal_at c at k / 2) all) → b ≡ false
        → false ≡ derived_in_order (question_of x) c at begun
    not_named e h =
        sym (ap (λ (b : Bool). b && (hints_earlier (question_of x) c at begun && follows (question_of x) c at))
        (sym (named_is e) ∙ h))

    pub not_earlier : {b d : Bool} → b ≡ every L (λ k. ltb (literal_at c at k / 2) all) → b ≡ true
        → d ≡ every H (λ k. begun_in all (length c) work (hint_at c at k)) → d ≡ false
        → false ≡ derived_in_order (question_of x) c at begun
    not_earlier e h f k =
        sym (ap₂ (λ (b d : Bool). b && (d && follows (question_of x) c at)) (sym (named_is e) ∙ h)
        (sym (earlier_is f) ∙ k))

    pub by_following : {b d r : Bool} → b ≡ every L (λ k. ltb (literal_at c at k / 2) all) → b ≡ true
        → d ≡ every H (λ k. begun_in all (length c) work (hint_at c at k)) → d ≡ true
        → r ≡ follows (question_of x) c at → r ≡ derived_in_order (question_of x) c at begun
    by_following e h f k g =
        g ∙ sym (ap₂ (λ (b d : Bool). b && (d && follows (question_of x) c at)) (sym (named_is e) ∙ h)
        (sym (earlier_is f) ∙ k))

    pub literals_in_lem : {b : Bool} → b ≡ every L (λ k. ltb (literal_at c at k / 2) all) → b ≡ true
        → LiteralsIn (variables x.size) c at
    literals_in_lem e h = named_literals x.size x.table.now c at there (sym (named_is e) ∙ h)

    pub all_usable : {d : Bool} → d ≡ every H (λ k. begun_in all (length c) work (hint_at c at k)) → d ≡ true
        → (k : ℕ) → k < hints_at c at → CanUse x (hint_at c at k)
    unfolding hints_earlier
    all_usable f h k l =
        ready.usable (hint_at c at k)
        (every_at (hints_at c at) (λ j. begun (hint_at c at j)) (sym (earlier_is f) ∙ h) k l)
