-- Two own positions, one free one: at a place where all three are 0, four points and two offsets make eight bits. Where
-- the words of their changes clash, three of the four points are told apart. Assumes nothing.
use Rattle.std.proofs.Common.{◌≡◌, ℕ, zero, suc, ◌+◌, ◌-◌, ◌*◌, ◌%◌, ◌^◌, ◌<◌, ◌≤◌, Bool, true, false, not, ◌&&◌, ◌||◌, eqb, sym, refl, ap, ◌∙◌, subst, ap₂, lt_of_lt_of_le, lt_of_le_of_lt, sub-le, arith, lit<, pow_pos, pow_mono, pow-add, eqb-true}
use mathlib.Core.Bool.{or-false}
use native.Mathlib.Decide.{dec_lt}
use lib.Bits.{bit_and, bit_or, bit_xor, or_lt, or_zero_r, and_le_l}
use borrow.Author.Tests.{not-true}
use Rattle.bits.specs.Numbers.{bit, number}
use Rattle.bits.specs.Sets.{union, Apart, spread}
use Rattle.bits.proofs.Bools.{clash, false_of, or-none, and_left, and_right}
use Rattle.bits.specs.Patterns.{pattern}
use Rattle.bits.proofs.Inputs.{pattern-off}
use Rattle.bits.proofs.Members.{spread_inside}
use Rattle.bits.proofs.Numbers.{number_lt, number-mod, number_bit, bit-number, bit-zero, bit_high, bit_below}
use Rattle.bits.proofs.Sums.{number-join, sum_mask, bit_not}
use Rattle.bits.proofs.Machine.{bit-and, bit-or}
use Rattle.witness.specs.Witness.{RulesOut, Told, Spots}
use Rattle.witness.specs.Points.{differ, Turned, Off, Still, Steps}
use Rattle.witness.proofs.Members.{bit-xor, bit_within, power_bit}
use Rattle.witness.proofs.Points.{told_by, not-told, said_no, three_rule}

-- ---- four points and two offsets: some point changes at the first, some at the second, and some at one alone
module _ (F : ℕ → Bool) (at : ℕ → ℕ → ℕ) where
  changes : ℕ → ℕ → Bool
  changes o a = differ (F (at a o)) (F (at 0 o))

  -- two points that are told apart from point 0 and from each other
  record Two : Type 0 where
    v : ℕ
    u : ℕ
    first : Told F at 0 v
    second : Told F at 0 u
    other : Told F at v u

  from : (o o' v u : ℕ) → changes o v ≡ true → changes o' v ≡ false → changes o' u ≡ true → Two
  unfolding changes
  from o o' v u p q r = record {
    v = v;
    u = u;
    first = (o, λ e. told_by (F (at v o)) (F (at 0 o)) p (sym e));
    second = (o', λ e. told_by (F (at u o')) (F (at 0 o')) r (sym e));
    other = (o', λ e. told_by (F (at u o')) (F (at 0 o')) r (sym e ∙ not-told (F (at v o')) (F (at 0 o')) q));
  }

  one_of : (f : ℕ → Bool) → ((f 1 || f 2) || f 3) ≡ true → (a : ℕ) × (f a ≡ true)
  one_of f e = go (f 1) (f 2) refl refl e
    where
      go : (s t : Bool) → f 1 ≡ s → f 2 ≡ t → ((s || t) || f 3) ≡ true → (a : ℕ) × (f a ≡ true)
      go true t p q e = (1, p)
      go false true p q e = (2, q)
      go false false p q e = (3, e)

  module _ (first : ((changes 0 1 || changes 0 2) || changes 0 3) ≡ true)
      (second : ((changes 1 1 || changes 1 2) || changes 1 3) ≡ true)
      (alone : ((differ (changes 0 1) (changes 1 1) || differ (changes 0 2) (changes 1 2))
      || differ (changes 0 3) (changes 1 3)) ≡ true) where
    two : Two
    two = let v = one_of (λ a. differ (changes 0 a) (changes 1 a)) alone
        in go v.0 (changes 0 v.0) (changes 1 v.0) refl refl v.1
      where
        go : (v : ℕ) (s t : Bool) → changes 0 v ≡ s → changes 1 v ≡ t → differ s t ≡ true → Two
        go v true false p q e = let u = one_of (changes 1) second in from 0 1 v u.0 p q u.1
        go v false true p q e = let u = one_of (changes 0) first in from 1 0 v u.0 q p u.1
        go v true true p q e = said_no e
        go v false false p q e = said_no e

-- ---- bit k of what the code joins
or-bits : (k u v w : ℕ) (r s t : Bool) → bit u k ≡ r → bit v k ≡ s → bit w k ≡ t → bit (bit_or (bit_or u v) w) k ≡ true
    → ((r || s) || t) ≡ true
or-bits k u v w r s t f g h e = sym (bit-or (bit_or u v) w k ∙ ap₂ ◌||◌ (bit-or u v k ∙ ap₂ ◌||◌ f g) h) ∙ e

both_bits : (k u v : ℕ) (s t : Bool) → bit u k ≡ s → bit v k ≡ t → bit (bit_xor u v) k ≡ differ s t
both_bits k u v s t f g = bit-xor u v k ∙ ap₂ differ f g

pub and-bits : (k u v : ℕ) → bit (bit_and u v) k ≡ true → (bit u k ≡ true) × (bit v k ≡ true)
and-bits k u v e = let f = sym (bit-and u v k) ∙ e in (and_left (bit u k) (bit v k) f, and_right (bit u k) (bit v k) f)

-- ---- the bits at place k from x on, with d or not, with p, q, both or neither
module _ {n : ℕ} (x d p q k : ℕ) (least : 6 ≤ n) (below_x : x < 2 ^ n) (below_d : d < 2 ^ n) (below_p : p < 2 ^ n)
    (below_q : q < 2 ^ n)
    (still : Still n x d p q k) where
  base : ℕ → ℕ
  base zero = x
  base (suc o) = bit_or x d

  corner : ℕ → ℕ
  corner zero = 0
  corner (suc zero) = p
  corner (suc (suc zero)) = q
  corner (suc (suc (suc a))) = bit_or p q

  spot : ℕ → ℕ → ℕ
  spot a o = bit_or (base o) (corner a) + k

  base-lt : (o : ℕ) → base o < 2 ^ n
  unfolding base
  base-lt zero = below_x
  base-lt (suc o) = or_lt n x d below_x below_d

  corner_lt : (a : ℕ) → corner a < 2 ^ n
  unfolding corner
  corner_lt zero = pow_pos n
  corner_lt (suc zero) = below_p
  corner_lt (suc (suc zero)) = below_q
  corner_lt (suc (suc (suc a))) = or_lt n p q below_p below_q

  word_lt : (a o : ℕ) → bit_or (base o) (corner a) < 2 ^ n
  word_lt a o = or_lt n (base o) (corner a) (base-lt o) (corner_lt a)

  -- what no corner has, and what no base has
  corner_off : (a j : ℕ) → bit (bit_or p q) j ≡ false → bit (corner a) j ≡ false
  unfolding corner
  corner_off zero j e = bit-zero j
  corner_off (suc zero) j e = (or-none (bit p j) (bit q j) (sym (bit-or p q j) ∙ e)).0
  corner_off (suc (suc zero)) j e = (or-none (bit p j) (bit q j) (sym (bit-or p q j) ∙ e)).1
  corner_off (suc (suc (suc a))) j e = e

  base-off : (o j : ℕ) → bit d j ≡ false → bit (base o) j ≡ bit x j
  unfolding base
  base-off zero j e = refl
  base-off (suc o) j e = bit-or x d j ∙ ap (λ (t : Bool). bit x j || t) e ∙ or-false (bit x j)

  -- the place moves no corner
  apart : (a o : ℕ) → Apart n (bit (bit_or (base o) (corner a))) (bit k)
  unfolding base
  apart a o j l e = bit-or (base o) (corner a) j ∙ ap₂ ◌||◌ (at_base o) (corner_off a j w.1)
    where
      w : (bit (bit_or x d) j ≡ false) × (bit (bit_or p q) j ≡ false)
      w = or-none (bit (bit_or x d) j) (bit (bit_or p q) j) (sym (bit-or (bit_or x d) (bit_or p q) j) ∙ still.apart j l e)

      at_base : (o : ℕ) → bit (base o) j ≡ false
      at_base zero = (or-none (bit x j) (bit d j) (sym (bit-or x d j) ∙ w.0)).0
      at_base (suc o) = w.0

  k_lt : k < 2 ^ n
  k_lt = lt_of_lt_of_le still.below (pow_mono {i = 6} {j = n} least)

  sum : (a o : ℕ) → spot a o ≡ number n (union (bit (bit_or (base o) (corner a))) (bit k))
  unfolding spot
  sum a o = sum_mask n (bit_or (base o) (corner a)) k (word_lt a o) k_lt (apart a o)

  spot_bit : (a o j : ℕ) → j < n → bit (spot a o) j ≡ ((bit (base o) j || bit (corner a) j) || bit k j)
  spot_bit a o j l =
      ap (λ (m : ℕ). bit m j) (sum a o) ∙ bit-number n (union (bit (bit_or (base o) (corner a))) (bit k)) j l
      ∙ ap (λ (t : Bool). t || bit k j) (bit-or (base o) (corner a) j)

  spots : Spots n (bit (bit_or p q)) (bit d) spot
  spots = record {
    below = λ a o. subst (λ (m : ℕ). m < 2 ^ n) (sym (sum a o))
        (number_lt n (union (bit (bit_or (base o) (corner a))) (bit k)));
    points = λ a a' o j l e. spot_bit a o j l ∙ ap (λ (t : Bool). (bit (base o) j || t) || bit k j)
        (corner_off a j e ∙ sym (corner_off a' j e)) ∙ sym (spot_bit a' o j l);
    offsets = λ a o o' j l e. spot_bit a o j l ∙ ap (λ (t : Bool). (t || bit (corner a) j) || bit k j)
        (base-off o j e ∙ sym (base-off o' j e)) ∙ sym (spot_bit a o' j l);
  }

  -- the place is within the word that is read
  room : (a o : ℕ) → bit_or (base o) (corner a) % 64 + k < 64
  room a o =
      let m = bit_or (base o) (corner a) in
      omega (
        arith,
        number-mod 6 m,
        number_bit 6 k still.below,
        number-join 6 (bit m) (bit k) off,
        number_lt 6
            (λ j. bit m j || bit k j),
      )
    where
      off : (j : ℕ) → j < 6 → bit (bit_or (base o) (corner a)) j ≡ true → bit k j ≡ false
      off j l e = false_of (bit k j) (λ h. clash e (apart a o j (omega (arith, least)) h))

  plain : (o : ℕ) → bit_or (base o) (corner 0) ≡ base o
  unfolding corner
  plain o = or_zero_r (base o)

  module _ (F : ℕ → Bool) where
    change-bit : (a o w : ℕ) → Turned F (base o) (corner a) w → bit w k ≡ changes F spot o a
    unfolding changes spot
    change-bit a o w t =
        t k (subst (λ (m : ℕ). m % 64 + k < 64) (plain o) (room 0 o)) (room a o)
        ∙ ap (λ (m : ℕ). differ (F (spot a o)) (F (m + k))) (sym (plain o))

    -- ---- three points of the four
    two_rule : Two F spot → RulesOut n F 2 (bit (bit_or p q)) (bit d)
    two_rule w = three_rule (λ i. spot (pick i)) (record {
      below = λ i. spots.below (pick i);
      points = λ i i'. spots.points (pick i) (pick i');
      offsets = λ i. spots.offsets (pick i);
    }) w.first w.second w.other
      where
        pick : ℕ → ℕ
        pick zero = 0
        pick (suc zero) = w.v
        pick (suc (suc i)) = w.u

    module _ (ap' aq ar bp bq br : ℕ) (tap : Turned F x p ap') (taq : Turned F x q aq) (tar : Turned F x (bit_or p q) ar)
        (tbp : Turned F (bit_or x d) p bp)
        (tbq : Turned F (bit_or x d) q bq) (tbr : Turned F (bit_or x d) (bit_or p q) br) where
      pub corners_rule : bit (bit_and (bit_and (bit_or (bit_or ap' aq) ar) (bit_or (bit_or bp bq) br))
          (bit_or (bit_or (bit_xor ap' bp) (bit_xor aq bq)) (bit_xor ar br))) k ≡ true
          → RulesOut n F 2 (bit (bit_or p q)) (bit d)
      unfolding base corner
      corners_rule e =
          let l = and-bits k (bit_and (bit_or (bit_or ap' aq) ar) (bit_or (bit_or bp bq) br))
          (bit_or (bit_or (bit_xor ap' bp) (bit_xor aq bq)) (bit_xor ar br)) e in
          let f = and-bits k (bit_or (bit_or ap' aq) ar) (bit_or (bit_or bp bq) br) l.0 in
          let cap = change-bit 1 0 ap' tap in
          let caq = change-bit 2 0 aq taq in
          let car = change-bit 3 0 ar tar in
          let cbp = change-bit 1 1 bp tbp in
          let cbq = change-bit 2 1 bq tbq in
          let cbr = change-bit 3 1 br tbr in
          two_rule (two F spot (or-bits k ap' aq ar _ _ _ cap caq car f.0)
          (or-bits k bp bq br _ _ _ cbp cbq cbr f.1)
          (or-bits k (bit_xor ap' bp) (bit_xor aq bq) (bit_xor ar br) _ _ _ (both_bits k ap' bp _ _ cap cbp)
          (both_bits k aq bq _ _ caq cbq) (both_bits k ar br _ _ car cbr)
          l.1))

-- ---- as the code says it

-- the positions from 6 on, without those of `own`
pub steps_are : (n own all : ℕ) → 6 ≤ n → n ≤ 16 → own < 4294967296 → all ≡ 2 ^ n
    → Steps n own (bit_and (all - 64) (4294967295 - own))
steps_are n own all least most fits e = record {
  below = lt_of_le_of_lt (and_le_l (all - 64) (4294967295 - own)) (omega (arith, pow_pos n));
  high = λ j l. bit-and (all - 64) (4294967295 - own) j ∙ ap (λ (t : Bool). t && bit (4294967295 - own) j) (low j l);
  other = other;
}
  where
    whole : all - 64 ≡ 0 + (2 ^ (n - 6) - 1) * 2 ^ 6
    whole = let g : n ≡ (n - 6) + 6 = omega arith
        in omega (arith, ap (λ (m : ℕ). 2 ^ m) g ∙ pow-add 2 (n - 6) 6, pow_pos (n - 6))

    low : (j : ℕ) → j < 6 → bit (all - 64) j ≡ false
    low j l = ap (λ (m : ℕ). bit m j) whole ∙ bit_below 0 (2 ^ (n - 6) - 1) 6 j l ∙ bit-zero j

    off : (s t : Bool) → t ≡ false → (s && t) ≡ false
    off true t f = f
    off false t f = refl

    other : (j : ℕ) → bit own j ≡ true → bit (bit_and (all - 64) (4294967295 - own)) j ≡ false
    other j f = bit-and (all - 64) (4294967295 - own) j
        ∙ off (bit (all - 64) j) (bit (4294967295 - own) j) (elim (dec_lt j 32) [
          | yes l ↦ bit_not 32 own j fits l ∙ ap not f
          | no l ↦ absurd (clash f (bit_high own 32 j fits (omega arith)))
        ])

-- a place at which input i is 0, of the word that x steps to
pub still_place : (n x d p q k i j c : ℕ) → p ≡ 2 ^ i → q ≡ 2 ^ j → d ≡ 2 ^ c → ((l : ℕ) → l < 6 → bit x l ≡ false) → k
    < 64 → bit k i ≡ false
    → bit k j ≡ false → bit k c ≡ false → Still n x d p q k
still_place n x d p q k i j c ep eq ed low small at_i at_j at_c = record { below = small; apart = apart }
  where
    at_power : (e m l : ℕ) → m ≡ 2 ^ e → bit k e ≡ false → bit k l ≡ true → bit m l ≡ false
    at_power e m l f g h = ap (λ (u : ℕ). bit u l) f ∙ power_bit e l
        ∙ false_of (eqb l e) (λ r. clash h (ap (bit k) (eqb-true l e r) ∙ g))

    apart : Apart n (bit (bit_or (bit_or x d) (bit_or p q))) (bit k)
    apart l b h =
        bit-or (bit_or x d) (bit_or p q) l ∙ ap₂ ◌||◌ (bit-or x d l ∙ ap₂ ◌||◌ at_x (at_power c d l ed at_c h))
        (bit-or p q l ∙ ap₂ ◌||◌ (at_power i p l ep at_i h) (at_power j q l eq at_j h))
      where
        at_x : bit x l ≡ false
        at_x = elim (dec_lt l 6) [ yes g ↦ low l g | no g ↦ absurd (clash h (bit_high k 6 l small (omega arith))) ]

-- what a walk over a mask gives has no position that the mask lacks
pub spread_low : (n mask x v j : ℕ) → x ≡ spread n (bit mask) v → j < n → bit mask j ≡ false → bit x j ≡ false
spread_low n mask x v j e l f = ap (λ (m : ℕ). bit m j) e
    ∙ false_of (bit (spread n (bit mask) v) j) (λ h. clash (spread_inside n (bit mask) v j l h) f)

-- every place is without an input that is not below 6
pub all_off : (j : ℕ) → 6 ≤ j → Off j 18446744073709551615
all_off j h k e = let l = bit_within 18446744073709551615 64 k (lit< tt) e in (l, bit_high k 6 j l h)

-- and half of them without one that is
pub half-off : (j p : ℕ) → p ≡ pattern j → Off j (18446744073709551615 - p)
half-off j p f k e =
    let l = bit_within (18446744073709551615 - p) 64 k (lt_of_le_of_lt (sub-le 18446744073709551615 p) (lit< tt)) e in
    (l, not-true (bit k j) (sym (pattern-off j p k l f) ∙ e))

-- places without i, and without j
pub places_off : (i j u v : ℕ) → Off i u → Off j v → Off i (bit_and u v) × Off j (bit_and u v)
places_off i j u v f g = (λ k e. f k (and-bits k u v e).0, λ k e. g k (and-bits k u v e).1)
