-- Ways compose and turn back, so that tables which can be turned into each other make classes. Assumes nothing.
use mathlib.Core.Path.{◌≡◌, refl, sym, ap, ap₂, subst, ◌∙◌}
use mathlib.Core.Bool.{Bool, true, false, ◌&&◌}
use Prim.Native.Nat.{ℕ, zero, suc, ◌<◌}
use native.Mathlib.Omega.{arith}
use lib.Dec.{eqb}
use borrow.Author.Tests.{eqb-true}
use Rattle.bits.specs.Numbers.{bit, number}
use Rattle.bits.specs.Below.{every, least}
use Rattle.bits.proofs.Bools.{and_left, and_right}
use Rattle.bits.proofs.Below.{every_at}
use Rattle.bits.proofs.Numbers.{number_lt, bit-number, number_ext}
use Rattle.turning.specs.declared.ways.Way.{Way}
use Rattle.turning.specs.Ways.{flipped, place, moved, IsWay, Turns, Reachable, way_count}
use Rattle.turning.specs.Listing.{way_at}
use Rattle.turning.proofs.Listed.{is_way, way_holds, way_at_lem, rank, rank_lt, listed}

flipped-both : (a b c : Bool) → flipped (flipped a b) c ≡ flipped a (flipped b c)
flipped-both true true true = refl
flipped-both true true false = refl
flipped-both true false c = refl
flipped-both false b c = refl

flipped_back : (a b : Bool) → flipped a (flipped a b) ≡ b
flipped_back true true = refl
flipped_back true false = refl
flipped_back false b = refl

pub moved-lt : (w : Way) (x : ℕ) → moved w x < 8
unfolding moved
moved-lt w x = number_lt 3 _

-- ---- one way after another

-- bit j of its mask
abbrev both_flip : Way → Way → ℕ → Bool
both_flip w v j = flipped (bit w.mask j) (bit v.mask (place w j))

-- v after w
pub both : Way → Way → Way
both w v = record {
  flip = flipped v.flip w.flip;
  mask = number 3 (both_flip w v);
  p0 = place v w.p0;
  p1 = place v w.p1;
  p2 = place v w.p2;
}

module _ (w v : Way) where
  both-place : (j : ℕ) → place (both w v) j ≡ place v (place w j)
  unfolding both
  both-place zero = refl
  both-place (suc zero) = refl
  both-place (suc (suc j)) = refl

  both_way : IsWay w → IsWay v → IsWay (both w v)
  unfolding both
  both_way k l = record {
    mask = number_lt 3 _;
    within = λ j h. subst (λ (m : ℕ). m < 3) (sym (both-place j)) (l.within (place w j) (k.within j h));
    apart = λ i j g h e. k.apart i j g h
        (l.apart (place w i) (place w j) (k.within i g) (k.within j h) (sym (both-place i) ∙ e ∙ both-place j));
  }

  both-moved : IsWay w → (x : ℕ) → moved (both w v) x ≡ moved w (moved v x)
  unfolding moved both
  both-moved k x = number_ext 3 _ _ at
    where
      at : (j : ℕ) → j < 3
          → flipped (bit (both w v).mask j) (bit x (place (both w v) j))
          ≡ flipped (bit w.mask j) (bit (moved v x) (place w j))
      at j h =
          ap₂ (λ (s : Bool) (m : ℕ). flipped s (bit x m)) (bit-number 3 (both_flip w v) j h) (both-place j)
          ∙ flipped-both (bit w.mask j) (bit v.mask (place w j)) (bit x (place v (place w j)))
          ∙ ap (flipped (bit w.mask j))
          (sym (bit-number 3 (λ j. flipped (bit v.mask j) (bit x (place v j))) (place w j) (k.within j h)))

  both-turns : IsWay w → (f g h : ℕ) → Turns w f g → Turns v g h → Turns (both w v) f h
  unfolding both
  both-turns k f g h s t x l =
      t x l ∙ ap (flipped v.flip) (s (moved v x) (moved-lt v x)) ∙ sym (flipped-both v.flip w.flip _)
      ∙ ap (λ (y : ℕ). flipped (flipped v.flip w.flip) (bit f y)) (sym (both-moved k x))

-- ---- and back

back_place : Way → ℕ → ℕ
back_place w k = least 3 (λ j. eqb (place w j) k)

pub back : Way → Way
back w = record {
  flip = w.flip;
  mask = number 3 (λ k. bit w.mask (back_place w k));
  p0 = back_place w 0;
  p1 = back_place w 1;
  p2 = back_place w 2;
}

abbrev same : Way → Way → ℕ → Bool
same v w x = eqb (moved w (moved v x)) x

undoes : Way → Way → Bool
undoes v w = is_way v && every 8 (same v w)

all_back : every way_count (λ i. undoes (back (way_at i)) (way_at i)) ≡ true
unfolding undoes is_way back back_place least way_at moved number
all_back = refl

module _ (w : Way) (k : IsWay w) where
  undone : undoes (back w) w ≡ true
  undone =
      subst (λ (v : Way). undoes (back v) v ≡ true) (listed w k)
      (every_at way_count (λ i. undoes (back (way_at i)) (way_at i)) all_back (rank w) (rank_lt w k))

  back_way : IsWay (back w)
  unfolding undoes
  back_way = way_holds (back w) (and_left _ _ undone)

  back_turns : (f g : ℕ) → Turns w f g → Turns (back w) g f
  unfolding undoes back
  back_turns f g t x l =
      sym (flipped_back w.flip (bit f x))
      ∙ ap (λ (y : ℕ). flipped w.flip (flipped w.flip (bit f y)))
      (sym (eqb-true _ x (every_at 8 (same (back w) w) (and_right (is_way (back w)) _ undone) x l)))
      ∙ ap (flipped w.flip) (sym (t (moved (back w) x) (moved-lt (back w) x)))

-- ---- classes

stays : every 8 (λ x. eqb (moved (way_at 0) x) x) ≡ true
unfolding way_at moved number
stays = refl

pub reach_same : (f : ℕ) → Reachable f f
unfolding way_at
reach_same f = record {
  way = way_at 0;
  is = way_at_lem 0 (omega arith);
  turns = λ x l. ap (bit f) (sym (eqb-true _ x (every_at 8 (λ x. eqb (moved (way_at 0) x) x) stays x l)));
}

pub reach_back : {f g : ℕ} → Reachable f g → Reachable g f
reach_back {f} {g} r = record {
  way = back r.way;
  is = back_way r.way r.is;
  turns = back_turns r.way r.is f g r.turns;
}

pub reach_on : {f g h : ℕ} → Reachable f g → Reachable g h → Reachable f h
reach_on {f} {g} {h} r s = record {
  way = both r.way s.way;
  is = both_way r.way s.way r.is s.is;
  turns = both-turns r.way s.way r.is f g h r.turns s.turns;
}
