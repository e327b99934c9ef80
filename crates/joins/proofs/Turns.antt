-- The turns of deciding: an input for which another stands is fixed, and an input that stands for no decided one is
-- decided. Assumes nothing.
use mathlib.Core.Path.{◌≡◌, refl, sym, ap, ap₂, ◌∙◌, subst}
use mathlib.Core.Logic.{◌⊎◌, inl, inr, ⊎_elim}
use mathlib.Core.Bool.{Bool, true, false, not, ◌&&◌, ◌||◌, and-false}
use Prim.Native.Nat.{ℕ, ◌+◌, ◌-◌, ◌^◌, ◌<◌, ◌≤◌}
use native.Mathlib.Decide.{ℕ_discrete, dec_lt}
use native.Mathlib.Omega.{arith}
use lib.Dec.{eqb}
use borrow.Author.Tests.{eq-eqb, ne_eqb, eqb-true}
use Rattle.bits.specs.Numbers.{bit}
use Rattle.bits.proofs.Bools.{clash, false_of, or_left, or_right, and_left}
use Rattle.bits.proofs.Numbers.{bit_high}
use Rattle.bits.proofs.Single.{plus_bit, plus_lt}
use Rattle.tables.specs.Depends.{DependsOn}
use Rattle.trees.specs.Tree.{Tree, IsTree}
use Rattle.trees.proofs.Graft.{Computes}
use Rattle.joins.specs.declared.pairs.Left.{Left}
use Rattle.joins.specs.StandsFor.{fixed_at, StandsFor}
use Rattle.joins.specs.Left.{gate_left, Unfixed, one_fixed, one_decided, Reduced, DecidedFrom}
use Rattle.joins.proofs.Joining.{tree_left, tree_joined, counts-left, stands_before}
use Rattle.joins.proofs.Leaving.{less_bit, fixing_more, left_more}
use Rattle.joins.proofs.Starting.{to_tree, of_tree}

-- ---- input i goes: j stands for it too
module _ (n : ℕ) (F : ℕ → Bool) (g : Left) (R : Reduced n F g) (i j : ℕ) (is : bit g.decided i ≡ true)
    (fj : Unfixed n g j) (from : DecidedFrom n g (j + 1)) (v : Bool) (J : StandsFor n (gate_left n F g) i j v) where
  abbrev G : ℕ → Bool
  G = gate_left n F g

  abbrev after : Left
  after = one_fixed g i v

  fi : Unfixed n g i
  fi = R.unfixed i is

  lt : j < i
  lt = omega (arith, from.above i is)

  differ : i ≡ j → ⊥
  differ e = omega (arith, lt)

  left_is : gate_left n F after ≡ fixed_at n G i v
  left_is = left_more n F g.fixed g.at R.fixing.below R.fixing.within i fi.0 fi.1 v
      (g.decided - 2 ^ i) g.decided

  fixed_after : (p : ℕ) → p < n → bit after.fixed p ≡ (bit g.fixed p || eqb p i)
  fixed_after = plus_bit n g.fixed i R.fixing.below fi.0 fi.1

  decided_after : (p : ℕ) → p < n → bit after.decided p ≡ (bit g.decided p && not (eqb p i))
  decided_after = less_bit n g.decided i R.below fi.0 is

  after_below : after.decided < 2 ^ n
  after_below = omega (arith, R.below)

  within : (p : ℕ) → bit after.decided p ≡ true → p < n
  within p e = elim (dec_lt p n) [
    | yes l ↦ l
    | no l ↦ absurd (clash e (bit_high after.decided n p after_below (omega arith)))
  ]

  -- a decided input was decided, and is another
  was : (p : ℕ) → bit after.decided p ≡ true → (bit g.decided p ≡ true) × (p ≡ i → ⊥)
  was p e =
      let h = sym (decided_after p (within p e)) ∙ e in (
        and_left (bit g.decided p) (not (eqb p i)) h,
        λ z.
            clash h (ap (λ (t : Bool). bit g.decided p && not t) (eq-eqb p i z) ∙ and-false (bit g.decided p)),
      )

  unfixed_was : (p : ℕ) → Unfixed n after p → Unfixed n g p × (p ≡ i → ⊥)
  unfixed_was p w =
      let h = sym (fixed_after p w.0) ∙ w.1 in (
        (w.0, false_of (bit g.fixed p) (λ e. clash (or_left (bit g.fixed p) (eqb p i) e) h)),
        λ z.
            clash (or_right (bit g.fixed p) (eqb p i) (eq-eqb p i z)) h,
      )

  unfixed_is : (p : ℕ) → Unfixed n g p → (p ≡ i → ⊥) → Unfixed n after p
  unfixed_is p w f = (w.0, fixed_after p w.0 ∙ ap₂ ◌||◌ w.1 (ne_eqb p i f))

  pub reduced_fixed : Reduced n F after
  reduced_fixed = record {
    fixing = fixing_more n F g.fixed g.at R.fixing.below R.fixing.within i fi.0 fi.1 v _;
    below = after_below;
    tree = (
      λ w. subst (IsTree n) (sym left_is) (to_tree n (fixed_at n G i v) (go (of_tree n G (R.tree.0 w)))),
      λ w. R.tree.1 (to_tree n G (back (of_tree n (fixed_at n G i v) (subst (IsTree n) left_is w)))),
    );
    counts = λ p w. let u = unfixed_was p w in
        subst (λ (K : ℕ → Bool). DependsOn n K p) (sym left_is)
        (counts-left n G i j v fi.0 fj.0 differ J p u.1 (R.counts p u.0));
    unfixed = λ p e. let u = was p e in unfixed_is p (R.unfixed p u.0) u.1;
    apart = λ k l ek el lk w N.
        let u = was k ek in
        let x = was l el in
        R.apart k l u.0 x.0 lk w
        (stands_before n G i j v fi.0 fj.0 differ J k l w (within k ek) (within l el) u.1
        (λ z. omega (arith, from.above k u.0)) x.1 (λ z. omega (arith, from.above l x.0))
        (subst (λ (K : ℕ → Bool). StandsFor n K k l w) left_is N));
  }
    where
      go : (t : Tree) × Computes n G t → (u : Tree) × Computes n (fixed_at n G i v) u
      go w = tree_left n G i v w.0 w.1

      back : (t : Tree) × Computes n (fixed_at n G i v) t → (u : Tree) × Computes n G u
      back w = tree_joined n G i j v fi.0 fj.0 differ J w.0 w.1

  pub from_fixed : DecidedFrom n after (j + 1)
  from_fixed = record {
    all = λ p l w. let u = unfixed_was p w in
        decided_after p w.0 ∙ ap₂ (λ (s t : Bool). s && not t) (from.all p l u.0) (ne_eqb p i u.1);
    above = λ p e. from.above p (was p e).0;
  }

  pub open_fixed : Unfixed n after j
  open_fixed = unfixed_is j fj (λ e. differ (sym e))

-- an input below the decided ones is none of them
pub undecided : (n : ℕ) (g : Left) (j : ℕ) → DecidedFrom n g (j + 1) → bit g.decided j ≡ false
undecided n g j from = false_of (bit g.decided j) (λ e. omega (arith, from.above j e))

-- ---- input j is decided: it stands for no decided one
module _ (n : ℕ) (F : ℕ → Bool) (g : Left) (R : Reduced n F g) (j : ℕ) (fj : Unfixed n g j)
    (from : DecidedFrom n g (j + 1))
    (none : (i : ℕ) → bit g.decided i ≡ true → (v : Bool) → StandsFor n (gate_left n F g) i j v → ⊥) where
  abbrev decided : Left
  decided = one_decided g j

  decided_bit : (p : ℕ) → p < n → bit decided.decided p ≡ (bit g.decided p || eqb p j)
  decided_bit = plus_bit n g.decided j R.below fj.0 (undecided n g j from)

  decided_lt : decided.decided < 2 ^ n
  decided_lt = plus_lt n g.decided j R.below fj.0 (undecided n g j from)

  -- a decided input was decided, or is j
  either : (p : ℕ) → bit decided.decided p ≡ true → (bit g.decided p ≡ true) ⊎ (p ≡ j)
  either p e = elim (dec_lt p n) [
    | yes l ↦ go (bit g.decided p) (eqb p j) refl refl (sym (decided_bit p l) ∙ e)
    | no l ↦ absurd (clash e (bit_high decided.decided n p decided_lt (omega arith)))
  ]
    where
      go : (s t : Bool) → bit g.decided p ≡ s → eqb p j ≡ t → (s || t) ≡ true → (bit g.decided p ≡ true) ⊎ (p ≡ j)
      go true t a b c = inl a
      go false true a b c = inr (eqb-true p j b)
      go false false a b c = absurd (clash c refl)

  pub reduced_decided : Reduced n F decided
  reduced_decided = record {
    fixing = record { below = R.fixing.below; within = R.fixing.within };
    below = decided_lt;
    tree = R.tree;
    counts = R.counts;
    unfixed = λ p e. ⊎_elim {C = Unfixed n g p} (R.unfixed p) (λ z. subst (Unfixed n g) (sym z) fj) (either p e);
    apart = λ k l ek el lk v N.
        ⊎_elim {C = ⊥} (λ sk. ⊎_elim {C = ⊥} (λ sl. R.apart k l sk sl lk v N)
        (λ z. none k sk v (subst (λ (m : ℕ). StandsFor n (gate_left n F g) k m v) z N)) (either l el))
        (λ z. ⊎_elim {C = ⊥} (λ sl. omega (arith, from.above l sl)) (λ y. omega arith) (either l el)) (either k ek);
  }

  pub from_decided : DecidedFrom n decided j
  from_decided = record {
    all = λ p l w. elim (ℕ_discrete p j) [
      | yes e ↦ decided_bit p w.0 ∙ or_right (bit g.decided p) (eqb p j) (eq-eqb p j e)
      | no e ↦ decided_bit p w.0 ∙ or_left (bit g.decided p) (eqb p j) (from.all p (omega arith) w)
    ];
    above = λ p e. ⊎_elim {C = j ≤ p} (λ s. omega (arith, from.above p s)) (λ z. omega arith) (either p e);
  }

-- a fixed input is passed over
pub from_passed : (n : ℕ) (g : Left) (j : ℕ) → bit g.fixed j ≡ true → DecidedFrom n g (j + 1) → DecidedFrom n g j
from_passed n g j e from = record {
  all = λ p l w. elim (ℕ_discrete p j) [
    | yes z ↦ absurd (clash (ap (bit g.fixed) z ∙ e) w.1)
    | no z ↦ from.all p (omega arith) w
  ];
  above = λ p s. omega (arith, from.above p s);
}
