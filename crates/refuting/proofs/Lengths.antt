-- How long a step is, and whether all of it is there. Assumes nothing.
use mathlib.Core.Path.{◌≡◌, refl, sym, ap, ap₂, ◌∙◌}
use mathlib.Core.Bool.{Bool, true, false, cond, ◌&&◌}
use mathlib.Core.List.{List}
use Prim.Native.Nat.{ℕ, zero, suc, ◌+◌, ◌*◌, ◌<◌, ◌≤◌}
use native.Mathlib.Omega.{arith}
use lib.Dec.{eqb, leb}
use lib.ListN.{length}
use borrow.Author.Tests.{le-leb, lt-leb, leb-true}
use Rattle.std.specs.Prelude.{Some, None}
use Rattle.bits.proofs.Bools.{and_left, and_right}
use Rattle.clauses.specs.Clause.{Question, in_order}
use Rattle.clauses.specs.Step.{kind_at, literals_at, hints_at, given_at, length_of, step_length}
use Rattle.clauses.specs.Lengths.{some_length}
use Rattle.clauses.proofs.Lengths.{none_of, some_of, is_none, is_some, not_zero}
use Rattle.following.specs.Following.{derived_in_order}
use Rattle.refuting.specs.Steps.{step_in_order}
use Rattle.refuting.specs.Looking.{is_there, AllOf, length_there}

-- a step of kind 0 says how long it is, another doesn't
pub derived_length : (c : List ℕ) (at : ℕ) → kind_at c at ≡ 0
    → step_length c at ≡ 7 + 4 * literals_at c at + 4 * hints_at c at
unfolding length_of
derived_length c at h = ap (length_of (7 + 4 * literals_at c at + 4 * hints_at c at)) h

other_length : (d k : ℕ) → (k ≡ 0 → ⊥) → length_of 0 k ≡ length_of d k
unfolding length_of
other_length d zero h = absurd (h refl)
other_length d (suc k) h = refl

pub given-length : (c : List ℕ) (at : ℕ) → (kind_at c at ≡ 0 → ⊥) → length_of 0 (kind_at c at) ≡ step_length c at
given-length c at h = other_length (7 + 4 * literals_at c at + 4 * hints_at c at) (kind_at c at) h

module _ (c : List ℕ) (at : ℕ) where
  -- all there, or not
  pub is_there_lem : 1 ≤ step_length c at → at + step_length c at ≤ length c → is_there c at ≡ true
  is_there_lem h k = ap₂ ◌&&◌ (le-leb 1 (step_length c at) h) (le-leb (at + step_length c at) (length c) k)

  pub too_long_lem : length c < at + step_length c at → is_there c at ≡ false
  too_long_lem k = go (leb 1 (step_length c at)) (lt-leb (at + step_length c at) (length c) k)
    where
      go : (b : Bool) {d : Bool} → d ≡ false → (b && d) ≡ false
      go true e = e
      go false e = refl

  pub no_kind : step_length c at ≡ 0 → is_there c at ≡ false
  no_kind h = ap (λ (b : Bool). b && leb (at + step_length c at) (length c)) (lt-leb 1 (step_length c at) (omega arith))

  pub length_yes : is_there c at ≡ true → step_length c at ≡ length_there c at
  length_yes h = sym (ap (λ (b : Bool). cond b (step_length c at) 0) h)

  pub length_no : is_there c at ≡ false → 0 ≡ length_there c at
  length_no h = sym (ap (λ (b : Bool). cond b (step_length c at) 0) h)

  pub all_of : is_there c at ≡ true → AllOf c at
  all_of h = record {
    some = leb-true 1 (step_length c at) (and_left (leb 1 (step_length c at)) (leb (at + step_length c at) (length c)) h);
    there = leb-true (at + step_length c at) (length c)
        (and_right (leb 1 (step_length c at)) (leb (at + step_length c at) (length c)) h);
  }

  -- the length as an option
  pub there_none : is_there c at ≡ false → None ≡ some_length (length_there c at)
  there_none h = none_of (length_there c at) (sym (length_no h))

  pub there_some : {n : ℕ} → n ≡ step_length c at → is_there c at ≡ true → Some n ≡ some_length (length_there c at)
  there_some e h = some_of (length_there c at) (e ∙ length_yes h) (omega (arith, (all_of h).some, length_yes h))

  -- as the length says
  pub not_by : None ≡ some_length (length_there c at) → is_there c at ≡ false
  not_by e = go (is_there c at) refl
    where
      go : (b : Bool) → is_there c at ≡ b → b ≡ false
      go false d = refl
      go true d =
          let z : step_length c at ≡ 0 = length_yes d ∙ is_none (length_there c at) e in
          absurd (omega (arith, (all_of d).some))

  pub there_by : {n : ℕ} → Some n ≡ some_length (length_there c at) → is_there c at ≡ true
  there_by e = go (is_there c at) refl
    where
      go : (b : Bool) → is_there c at ≡ b → b ≡ true
      go true d = refl
      go false d = absurd (not_zero (length_there c at) e (sym (length_no d)))

  pub length_by : {n : ℕ} → Some n ≡ some_length (length_there c at) → n ≡ step_length c at
  length_by e = is_some (length_there c at) e ∙ sym (length_yes (there_by e))

  -- whether it is in order
  module _ (q : Question) (begun : ℕ → Bool) where
    abbrev rest : Bool
    rest = cond (eqb (kind_at c at) 0) (derived_in_order q c at begun) (in_order q.size q.table (given_at c at))

    regroup : (a b d : Bool) → (a && (b && d)) ≡ ((a && b) && d)
    regroup true b d = refl
    regroup false b d = refl

    pub order_is : is_there c at ≡ true → rest ≡ step_in_order q c begun at
    unfolding step_in_order
    order_is h =
        sym (regroup (leb 1 (step_length c at)) (leb (at + step_length c at) (length c)) rest
        ∙ ap (λ (b : Bool). b && rest) h)

    pub order_not : is_there c at ≡ false → step_in_order q c begun at ≡ false
    unfolding step_in_order
    order_not h =
        regroup (leb 1 (step_length c at)) (leb (at + step_length c at) (length c)) rest
        ∙ ap (λ (b : Bool). b && rest) h
