-- Looking through the columns of b: the numbers seen so far stand for the different columns of the first a. Assumes
-- nothing.
use mathlib.Core.Path.{◌≡◌, refl, sym, ap, ◌∙◌, subst}
use mathlib.Core.Logic.{⊎_elim}
use mathlib.Core.Bool.{Bool, true, false, not}
use mathlib.Core.List.{List, map}
use Prim.Native.Nat.{ℕ, ◌+◌, ◌^◌, ◌<◌, ◌≤◌}
use native.Mathlib.Decide.{dec_lt}
use native.Mathlib.Omega.{arith}
use lib.Dec.{ltb}
use lib.ListN.{length, get_or, take, set, length-set}
use lib.Seq.{get_or-set_same, get_or-set_other}
use borrow.Author.Tests.{lt-ltb, le-ltb}
use Rattle.bits.specs.Numbers.{bit}
use Rattle.bits.specs.Places.{found_below}
use Rattle.bits.specs.Sets.{size, gather}
use Rattle.bits.proofs.Below.{below_suc}
use Rattle.bits.proofs.Places.{found_some, found_none}
use Rattle.bits.proofs.Walking.{Walked, walked_turn, walked_gather, walked_within}
use Rattle.columns.specs.declared.split.Split.{Split}
use Rattle.splits.specs.Columns.{index, firsts, columns}
use Rattle.columns.specs.Reading.{Within, column_of, column_at, columns_of, Seen}
use Rattle.splits.proofs.Stored.{step_old, step_new, too_many, reps_len, place-le}
use Rattle.columns.proofs.Places.{below_of_no_none, above_of_is_none}
use Rattle.std.proofs.Common.{Option, Some, None}
use Rattle.std.specs.Option.{is_some}

-- the first k of `seen` stand for the different columns of the first a own assignments
pub record SoFar (s : Split) (F : ℕ → Bool) (b limit : ℕ) (before seen : List ℕ) (k a : ℕ) : Type 0 where
  pub stands : map (column_at s F b) (take k seen) ≡ firsts (column_of s F b) a
  pub few : k ≤ limit
  pub long : length seen ≡ length before
  pub own : (i : ℕ) → i < k → Within s.n s.own (get_or seen i 0)
  pub stay : (i : ℕ) → k ≤ i → get_or seen i 0 ≡ get_or before i 0

pub looking_starts : {s : Split} {F : ℕ → Bool} {b limit : ℕ} {before : List ℕ} → SoFar s F b limit before before 0 0
unfolding firsts
looking_starts =
    record { stands = refl; few = omega arith; long = refl; own = λ i l. absurd (omega arith); stay = λ i l. refl }

module _ {s : Split} {F : ℕ → Bool} {b limit : ℕ} {before seen : List ℕ} {k a : ℕ}
    (w : SoFar s F b limit before seen k a)
    (room : limit ≤ length before) where
  within : k ≤ length seen
  within = omega (arith, w.few, w.long)

  -- one column more, read at z: its place among those seen, if it has one
  abbrev i : ℕ → ℕ
  i z = index (column_at s F b z) (map (column_at s F b) (take k seen))

  stands_for : {many z : ℕ} → Walked s.n s.own many z a → a < many → column_at s F b z ≡ column_of s F b a
  stands_for walk l = ap (column_of s F b) (walked_gather walk l)

  module _ {many z : ℕ} {at : Option ℕ} {none : Bool} (walk : Walked s.n s.own many z a) (l : a < many)
      (place : at ≡ found_below k (index (column_at s F b z) (map (column_at s F b) (take k seen))))
      (is : is_some at ≡ not none) where
    new_one : none ≡ true → i z ≡ k
    new_one e = omega (arith, above_of_is_none place is e, place-le (column_at s F b) seen k within (column_at s F b z))

    pub looking_old : none ≡ false → SoFar s F b limit before seen k (a + 1)
    looking_old e = record {
      stands = step_old (column_of s F b) (column_at s F b) seen k a z (i z) within w.stands (stands_for walk l) refl
          (λ q. omega (arith, below_of_no_none place is e));
      few = w.few;
      long = w.long;
      own = w.own;
      stay = w.stay;
    }

    pub looking_new : none ≡ true → (k ≡ limit → ⊥) → SoFar s F b limit before (set seen k z) (k + 1) (a + 1)
    looking_new e m = record {
      stands = step_new (column_of s F b) (column_at s F b) seen k a z (i z) within w.stands (stands_for walk l) refl (new_one e)
          inside;
      few = omega (arith, w.few);
      long = length-set seen k z ∙ w.long;
      own = λ j g. ⊎_elim
          (λ g. subst (Within s.n s.own) (sym (get_or-set_other seen k j z 0 (λ r. omega (arith, r)))) (w.own j g))
          (λ r. subst (Within s.n s.own) (sym (here j r)) (walked_within walk l))
          (below_suc {j = j} {n = k} (omega arith));
      stay = λ j g. get_or-set_other seen k j z 0 (λ r. omega (arith, r)) ∙ w.stay j (omega arith);
    }
      where
        inside : k < length seen
        inside = omega (arith, w.few, w.long)

        here : (j : ℕ) → j ≡ k → get_or (set seen k z) j 0 ≡ z
        here j r = ap (λ (m : ℕ). get_or (set seen k z) m 0) r ∙ get_or-set_same seen k z 0 inside

    pub looking_stops : none ≡ true → k ≡ limit → Seen s F b limit before seen (limit + 1)
    unfolding columns
    looking_stops e q =
        let more = too_many (column_of s F b) (column_at s F b) seen k a z (i z) within w.stands (stands_for walk l) refl
        (new_one e) in
        record {
          few = λ g. absurd (omega arith);
          many = λ g. omega (arith, more (2 ^ size s.n (bit s.own)) (walked_turn walk l));
          stands = λ g. absurd (omega arith);
          own = λ j g m. w.own j (omega arith);
          stay = λ j g. w.stay j (omega arith);
        }

  pub looking_ends : a ≡ 2 ^ size s.n (bit s.own) → Seen s F b limit before seen k
  unfolding columns
  looking_ends e =
      let whole : map (column_at s F b) (take k seen) ≡ columns_of s F b = w.stands ∙ ap (firsts (column_of s F b)) e in
      record {
        few = λ g. sym (reps_len (column_at s F b) seen k within) ∙ ap length whole;
        many = λ g. absurd (g w.few);
        stands = λ g. whole;
        own = λ j g m. w.own j g;
        stay = w.stay;
      }

-- what was seen says how many columns there are, up to the limit
module _ {s : Split} {F : ℕ → Bool} {b limit : ℕ} {before seen : List ℕ} where
  pub counted_few : {k : ℕ} → k ≤ limit → Seen s F b limit before seen k
      → Some k ≡ found_below (limit + 1) (length (columns_of s F b))
  counted_few {k} h w =
      ap (λ (j : ℕ). Some j) (w.few h)
      ∙ found_some (limit + 1) (length (columns_of s F b)) (omega (arith, w.few h))

  pub counted_over : Seen s F b limit before seen (limit + 1)
      → None ≡ found_below (limit + 1) (length (columns_of s F b))
  counted_over w =
      found_none (limit + 1) (length (columns_of s F b)) (omega (arith, w.many (λ g. omega arith)))

-- and settles the test at b, whose shared assignment is the number at hand of a walk
module _ (s : Split) (F : ℕ → Bool) (limit : ℕ) {many base b : ℕ} (walk : Walked s.n s.shared many base b)
    (l : b < many) where
  there : length (columns_of s F (gather s.n (bit s.shared) base)) ≡ length (columns_of s F b)
  there = ap (λ (i : ℕ). length (columns_of s F i)) (walked_gather walk l)

  module _ {o : Option ℕ} {none : Bool}
      (counted : o ≡ found_below (limit + 1) (length (columns_of s F (gather s.n (bit s.shared) base))))
      (is : is_some o ≡ not none) where
    pub seen_few : none ≡ false → ltb limit (length (columns_of s F b)) ≡ false
    seen_few e = le-ltb limit (length (columns_of s F b)) (omega (arith, there, below_of_no_none counted is e))

    pub seen_many : none ≡ true → ltb limit (length (columns_of s F b)) ≡ true
    seen_many e = lt-ltb limit (length (columns_of s F b)) (omega (arith, there, above_of_is_none counted is e))

module _ {s : Split} {F : ℕ → Bool} {limit : ℕ} {before seen : List ℕ} {k many base b : ℕ}
    (walk : Walked s.n s.shared many base b)
    (l : b < many) (w : Seen s F (gather s.n (bit s.shared) base) limit before seen k) where
  pub seen_at : Seen s F b limit before seen k
  seen_at = subst (λ (i : ℕ). Seen s F i limit before seen k) (walked_gather walk l) w

  -- where the test holds, the limit was not passed
  pub seen_within : length (columns_of s F b) ≤ limit → k ≤ limit
  seen_within h = elim (dec_lt limit k) [
    | yes g ↦ absurd (omega (arith, seen_at.many (λ m. omega arith)))
    | no g ↦ omega
        arith
  ]
