-- The marks of the places at which steps begin. Assumes nothing.
use mathlib.Core.Path.{◌≡◌, refl, sym, ap, ap₂, subst, fun_ext, ◌∙◌}
use mathlib.Core.Bool.{Bool, true, false, cond, ◌&&◌, ◌||◌}
use mathlib.Core.List.{List}
use Prim.Native.Nat.{ℕ, ◌+◌, ◌<◌}
use native.Mathlib.Decide.{ℕ_discrete, dec_lt}
use native.Mathlib.Omega.{arith}
use lib.Dec.{eqb, ltb}
use lib.ListN.{length, set, length-set}
use lib.Seq.{get_or-set_same, get_or-set_other}
use borrow.Author.Tests.{eq-eqb, ne_eqb, lt-ltb, le-ltb, eqb-true}
use Rattle.bits.specs.Lists.{byte_at}
use Rattle.bits.proofs.Bools.{and_left}
use Rattle.clauses.specs.declared.task.Task.{Task}
use Rattle.clauses.specs.Variables.{variables}
use Rattle.clauses.specs.Step.{kind_at, given_at, step_length}
use Rattle.clauses.specs.Asking.{question_of, given_in_order}
use Rattle.following.specs.Following.{literals_named, hints_earlier, follows, derived_in_order}
use Rattle.following.specs.Standing.{CanUse, Kept, Clean, begun_in, IsReady}
use Rattle.following.proofs.Deriving.{named_literals}
use Rattle.refuting.specs.Steps.{also_at, step_in_order, is_empty}
use Rattle.refuting.specs.Looking.{AllOf}
use Rattle.refuting.proofs.Lengths.{derived_length}
use Rattle.refuting.proofs.Walking.{From, from_next}

module _ (x : Task) (work mid : List ℕ) (at : ℕ)
    (k : Kept (variables x.size) (variables x.size + length x.certificate.now) work mid)
    (clean : Clean (variables x.size) mid) (r : IsReady x work) (all : AllOf x.certificate.now at) where
  abbrev c : List ℕ
  c = x.certificate.now

  abbrev V' : ℕ
  V' = variables x.size

  abbrev end : List ℕ
  end = set mid (V' + at) 1

  inside : at < length c
  inside = omega (arith, all.some, all.there)

  in_room : V' + at < length mid
  in_room = omega (arith, inside, k.long, r.room)

  here : byte_at end (V' + at) ≡ 1
  here = get_or-set_same mid (V' + at) 1 0 in_room

  there : (j : ℕ) → (j ≡ V' + at → ⊥) → byte_at end j ≡ byte_at mid j
  there j h = get_or-set_other mid (V' + at) j 1 0 h

  -- one mark more
  marked_at : (j : ℕ) → begun_in V' (length c) end j ≡ (eqb j at || begun_in V' (length c) work j)
  marked_at j = elim (ℕ_discrete j at) [
    | yes e ↦ ap₂ ◌&&◌ (lt-ltb j (length c) (omega (arith, inside)))
        (eq-eqb (byte_at end (V' + j)) 1 (ap (λ (i : ℕ). byte_at end (V' + i)) e ∙ here))
        ∙ sym (ap (λ (b : Bool). b || begun_in V' (length c) work j) (eq-eqb j at e))
    | no e ↦ (elim (dec_lt j (length c)) [
      | yes l ↦ ap (λ (b : ℕ). ltb j (length c) && eqb b 1) (there (V' + j) (λ d. e (omega arith))
          ∙ k.marks (V' + j) (omega arith) (omega arith))
      | no l ↦ ap (λ (b : Bool). b && eqb (byte_at end (V' + j)) 1) (le-ltb j (length c) (omega arith))
          ∙ sym (ap (λ (b : Bool). b && eqb (byte_at work (V' + j)) 1) (le-ltb j (length c) (omega arith)))
    ]) ∙ sym (ap (λ (b : Bool). b || begun_in V' (length c) work j) (ne_eqb j at e))
  ]

  pub marked : begun_in V' (length c) end ≡ also_at (question_of x) c at (begun_in V' (length c) work)
  marked = fun_ext marked_at

  -- the step's clause can be read
  usable_here : cond (eqb (kind_at c at) 0) (derived_in_order (question_of x) c at (begun_in V' (length c) work))
      (given_in_order x (given_at c at)) ≡ true → CanUse x at
  usable_here h = record {
    inside = inside;
    derived = λ e. named_literals x.size x.table.now c at (omega (arith, derived_length c at e, all.there))
        (and_left (literals_named (question_of x) c at) (hints_earlier (question_of x) c at (begun_in V' (length c) work)
        && follows (question_of x) c at)
        (sym (ap (λ (b : Bool). cond b (derived_in_order (question_of x) c at (begun_in V' (length c) work))
        (given_in_order x (given_at c at))) (eq-eqb (kind_at c at) 0 e)) ∙ h));
    given = λ e. sym (ap (λ (b : Bool). cond b (derived_in_order (question_of x) c at (begun_in V' (length c) work))
        (given_in_order x (given_at c at))) (ne_eqb (kind_at c at) 0 e)) ∙ h;
  }

  pub ready_next : cond (eqb (kind_at c at) 0) (derived_in_order (question_of x) c at (begun_in V' (length c) work))
      (given_in_order x (given_at c at)) ≡ true → IsReady x end
  ready_next h = record {
    room = omega (arith, r.room, k.long, length-set mid (V' + at) 1);
    clean = λ v l. there v (λ e. omega arith) ∙ clean v l;
    usable = λ j e. go j (eqb j at) refl (sym (marked_at j) ∙ e);
  }
    where
      go : (j : ℕ) (b : Bool) → eqb j at ≡ b → (b || begun_in V' (length c) work j) ≡ true → CanUse x j
      go j true d e = subst (CanUse x) (sym (eqb-true j at d)) (usable_here h)
      go j false d e = r.usable j e

  -- after the step: its place is marked, and the steps behind it come to what all come to
  module _ (o : step_in_order (question_of x) c (begun_in V' (length c) work) at ≡ true) {a : ℕ} (ea : a ≡ V') where
    pub ready_after : cond (eqb (kind_at c at) 0) (derived_in_order (question_of x) c at (begun_in V' (length c) work))
        (given_in_order x (given_at c at)) ≡ true → IsReady x (set mid (a + at) 1)
    ready_after h = subst (λ (i : ℕ). IsReady x (set mid (i + at) 1)) (sym ea) (ready_next h)

    pub from_after : (empty : Bool) {long : ℕ} {e : Bool} → From (question_of x) c at (begun_in V' (length c) work) empty
        → long ≡ step_length c at → e ≡ is_empty (question_of x) c at
        → From (question_of x) c (at + long) (begun_in V' (length c) (set mid (a + at) 1)) e
    from_after empty {long} {e} f el ee =
        subst (λ (i : ℕ). From (question_of x) c (at + i) (begun_in V' (length c) (set mid (a + at) 1)) e) (sym el)
        (subst (λ (b : Bool). From (question_of x) c (at + step_length c at)
        (begun_in V' (length c) (set mid (a + at) 1)) b) (sym ee)
        (subst (λ (i : ℕ). From (question_of x) c (at + step_length c at) (begun_in V' (length c) (set mid (i + at) 1))
        (is_empty (question_of x) c at)) (sym ea)
        (subst (λ (b : ℕ → Bool). From (question_of x) c (at + step_length c at) b (is_empty (question_of x) c at))
        (sym marked) (from_next (question_of x) c at (begun_in V' (length c) work) empty f inside o))))

-- at first nothing is marked
pub none_marked : (all many : ℕ) (work : List ℕ) → ((j : ℕ) → byte_at work j ≡ 0) → (j : ℕ)
    → begun_in all many work j ≡ false
none_marked all many work h j = go (ltb j many) (ne_eqb (byte_at work (all + j)) 1 (λ e. omega (arith, h (all + j))))
  where
    go : (b : Bool) {d : Bool} → d ≡ false → (b && d) ≡ false
    go true e = e
    go false e = refl
