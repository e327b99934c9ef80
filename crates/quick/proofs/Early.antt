-- Two answers without a walk: the very first candidate is possible, or no two inputs can be own. Assumes nothing.
use mathlib.Core.Path.{◌≡◌, refl, sym, ap, ap₂, ◌∙◌, subst}
use mathlib.Core.Logic.{⊎_elim}
use mathlib.Core.Bool.{Bool, true, false, not, ◌&&◌, ◌||◌, and-false}
use mathlib.Core.List.{List}
use Prim.Native.Nat.{ℕ, zero, suc, ◌+◌, ◌-◌, ◌*◌, ◌^◌, ◌<◌, ◌≤◌}
use native.Mathlib.Nat.{not-suc-le-zero, pow-suc}
use native.Mathlib.Numerals.{add-one}
use native.Mathlib.Omega.{arith}
use lib.Dec.{eqb}
use lib.Bits.{bit_and}
use lib.Pow.{pow_mono, pow_pos, pow-lt}
use borrow.Author.Tests.{eq-eqb, ne_eqb, eqb-true}
use Rattle.bits.specs.Numbers.{bit, val, number}
use Rattle.bits.specs.Sets.{union, size}
use Rattle.bits.proofs.Bools.{clash, and_left}
use Rattle.bits.proofs.Below.{below_suc}
use Rattle.bits.proofs.Counting.{size_none, size_all, size-or}
use Rattle.bits.proofs.Numbers.{bit-number, number_bit, bit-zero}
use Rattle.bits.proofs.Sizes.{size-le, size_ext}
use Rattle.bits.proofs.Sums.{all_ones, bit_not}
use Rattle.bits.proofs.Machine.{ones-size, bit-and}
use Rattle.splits.specs.Columns.{few_columns}
use Rattle.splits.proofs.Possible.{possible_iff}
use Rattle.best.specs.Best.{Candidate}
use Rattle.best.specs.Moves.{both}
use Rattle.best.specs.Search.{Answer, none, split, above, first, try_b, of_sizes, best}
use Rattle.best.proofs.Tries.{try_b_split}
use Rattle.best.proofs.Best.{best_split, best_answer, above_best}
use Rattle.witness.specs.Witness.{Inside}
use Rattle.known.specs.Notes.{Needs, of_pair, BadPairs, Dead, AllDead}
use Rattle.witness.proofs.Members.{power_bit}
use Rattle.walks.proofs.Pruning.{crowded, wide_size, lacks}

-- ---- the first candidate

-- a mask is no less than the least one of its size
least-number : (n : ℕ) (s : ℕ → Bool) → 2 ^ size n s ≤ number n s + 1
unfolding size number
least-number zero s = omega arith
least-number (suc n) s = go (s n) (least-number n s)
  where
    go : (t : Bool) → 2 ^ size n s ≤ number n s + 1 → 2 ^ (size n s + val t) ≤ number n s + val t * 2 ^ n + 1
    go true ih = rw add-one (omega (arith, pow-suc 2 (size n s), pow_mono {i = size n s} {j = n} (size-le n s)))
    go false ih = omega (arith, ap (λ (m : ℕ). 2 ^ m) (plus_none (size n s)))
      where
        plus_none : (m : ℕ) → m + 0 ≡ m
        plus_none m = omega arith

full : (k : ℕ) → 2 ^ k - 1 ≡ number k (λ j. true)
full k = omega (arith, all_ones k)

module _ (n k : ℕ) (enough : k ≤ n) where
  first-lt : 2 ^ k - 1 < 2 ^ n
  first-lt = omega (arith, pow_pos k, pow_mono {i = k} {j = n} enough)

  first-size : size n (bit (2 ^ k - 1)) ≡ k
  first-size =
      sym (ones-size n (2 ^ k - 1) first-lt) ∙ ones-size k (2 ^ k - 1) (omega (arith, pow_pos k))
      ∙ size_ext k (bit (2 ^ k - 1)) (λ j. true) (λ j l. ap (λ (m : ℕ). bit m j) (full k)
      ∙ bit-number k (λ j. true) j l) ∙ size_all k

  none-size : size n (bit 0) ≡ 0
  none-size = size_ext n (bit 0) (λ j. false) (λ j l. bit-zero j) ∙ size_none n

  -- where the search tries it and answers, that is the best split, and all k inputs are own
  pub first_best : (r : ℕ) (F : ℕ → Bool) → r < k → (q A B : ℕ) → try_b n r F q (2 ^ k - 1) 0 ≡ split A B
      → (best n r F k ≡ split A B) × (size n (bit A) ≡ k)
  first_best r F more q A B e =
      let h = try_b_split n r F q (2 ^ k - 1) 0 A B e in (
        best_answer n r F k (2 ^ k - 1) 0 (record {
          candidate = record {
            below_a = first-lt;
            below_b = pow_pos n;
            apart = h.apart;
            more = omega (arith, first-size);
            most = omega (arith, first-size, none-size);
          };
          possible = h.possible;
          ahead = λ A' B' c P. record {
            largest_a = omega (arith, first-size, c.most);
            smallest_b = λ s. omega (arith, none-size);
            least_a = λ s t. omega (
              arith,
              least-number n (bit A'),
              number_bit n A' c.below_a,
              ap (λ (m : ℕ). 2 ^ m)
                  (s ∙ first-size),
            );
            least_b = λ s t u. omega arith;
          };
        })
            ∙ ap₂ split h.same_a h.same_b,
        ap (λ (m : ℕ). size n (bit m)) (sym h.same_a) ∙ first-size,
      )

-- ---- no two inputs can be own
module _ (n r : ℕ) (F : ℕ → Bool) (k : ℕ) where
  pub never_best : ((A B : ℕ) → Candidate n k r A B → few_columns n F (bit A) (bit B) (2 ^ r) ≡ false) → best n r F k
      ≡ none
  never_best h = go (best n r F k) refl
    where
      go : (a : Answer) → best n r F k ≡ a → a ≡ none
      go none e = refl
      go (split A B) e =
          let w = best_split n r F k A B e in
          absurd (clash ((possible_iff n F (bit A) (bit B) w.candidate.apart r).1 w.possible)
          (h A B w.candidate))

one-member : (n : ℕ) (s : ℕ → Bool) → 0 < size n s → (j : ℕ) × (j < n) × (s j ≡ true)
unfolding size
one-member zero s h = absurd (not-suc-le-zero h)
one-member (suc n) s h = go (s n) refl (one-member n s)
  where
    up : (j : ℕ) × (j < n) × (s j ≡ true) → (j : ℕ) × (j < suc n) × (s j ≡ true)
    up w = (w.0, omega (arith, w.1), w.2)

    go : (t : Bool) → s n ≡ t → (0 < size n s → (j : ℕ) × (j < n) × (s j ≡ true)) → (j : ℕ) × (j < suc n) × (s j ≡ true)
    go true e ih = (n, omega arith, e)
    go false e ih = up (ih (omega (arith, ap val e)))

two-members : (n : ℕ) (s : ℕ → Bool) → 1 < size n s → (i : ℕ) × (j : ℕ) × (j < i) × (i < n) × (s i ≡ true)
    × (s j ≡ true)
unfolding size
two-members zero s h = absurd (omega arith)
two-members (suc n) s h = go (s n) refl (two-members n s)
  where
    up : (i : ℕ) × (j : ℕ) × (j < i) × (i < n) × (s i ≡ true) × (s j ≡ true) → (i : ℕ) × (j : ℕ) × (j < i) × (i < suc n)
        × (s i ≡ true) × (s j ≡ true)
    up w = (w.0, w.1, w.2, omega (arith, w.3), w.4, w.5)

    top : s n ≡ true → (j : ℕ) × (j < n) × (s j ≡ true) → (i : ℕ) × (j : ℕ) × (j < i) × (i < suc n) × (s i ≡ true)
        × (s j ≡ true)
    top e w = (n, w.0, w.1, omega arith, e, w.2)

    go : (t : Bool) → s n ≡ t → (1 < size n s → (i : ℕ) × (j : ℕ) × (j < i) × (i < n) × (s i ≡ true) × (s j ≡ true))
        → (i : ℕ) × (j : ℕ) × (j < i) × (i < suc n) × (s i ≡ true) × (s j ≡ true)
    go true e ih = top e (one-member n s (omega (arith, ap val e)))
    go false e ih = up (ih (omega (arith, ap val e)))

pair_size : (n i j : ℕ) → j < i → i < n → 2 ≤ size n (both i j)
unfolding size
pair_size zero i j l h = absurd (not-suc-le-zero h)
pair_size (suc n) i j l h = ⊎_elim (λ g. omega (arith, pair_size n i j l g))
    (λ e. omega (arith, ap val (here e), one n i j (omega (arith, e)))) (below_suc h)
  where
    here : i ≡ n → both i j n ≡ true
    here e = ap (λ (t : Bool). t || eqb n j) (eq-eqb n i (sym e))

    one : (n i j : ℕ) → j < n → 1 ≤ size n (both i j)
    one zero i j h = absurd (not-suc-le-zero h)
    one (suc n) i j h = ⊎_elim (λ g. omega (arith, one n i j g)) (λ e. omega (arith, ap val (there e))) (below_suc h)
      where
        there : j ≡ n → both i j n ≡ true
        there e = or-true (eqb n i) (eqb n j) (eq-eqb n j (sym e))
          where
            or-true : (s t : Bool) → t ≡ true → (s || t) ≡ true
            or-true true t e = refl
            or-true false t e = e

module _ {n : ℕ} {F : ℕ → Bool} (k : ℕ) (l : List (List ℕ)) (most : n ≤ 16) (w : BadPairs n F 2 l)
    (dead : AllDead l n k)
  where
    fails : (A B : ℕ) → Candidate n k 1 A B → few_columns n F (bit A) (bit B) 2 ≡ false
    fails A B c = go (two-members n (bit A) c.more)
      where
        go : (i : ℕ) × (j : ℕ) × (j < i) × (i < n) × (bit A i ≡ true) × (bit A j ≡ true)
            → few_columns n F (bit A) (bit B) 2 ≡ false
        go u = at u.0 u.1 u.2 u.3 u.4 u.5
          where
            at : (i j : ℕ) → j < i → i < n → bit A i ≡ true → bit A j ≡ true → few_columns n F (bit A) (bit B) 2 ≡ false
            at i j p q has_i has_j = lacks n 1 F (both i j) A B x.0 (needs x.0 (d.part x.0 x.2)) own x.3
                c.apart
              where
                d : Dead (of_pair l i j) i j k
                d = dead i q (omega (arith, most)) j p

                needs : Needs n F 2 (both i j) (of_pair l i j)
                needs = w.each i j (omega (arith, most)) (omega (arith, most))

                own : Inside (both i j) (bit A)
                own y e = pick (eqb y i) refl e
                  where
                    pick : (t : Bool) → eqb y i ≡ t → (t || eqb y j) ≡ true → bit A y ≡ true
                    pick true f g = ap (bit A) (eqb-true y i f) ∙ has_i
                    pick false f g = ap (bit A) (eqb-true y j g) ∙ has_j

                apart : (y : ℕ) → y < 16 → bit d.other y ≡ true → both i j y ≡ false
                apart y g e = ap₂ ◌||◌ (ne_eqb y i (λ r. clash e (ap (bit d.other) r ∙ d.no_i)))
                    (ne_eqb y j (λ r. clash e (ap (bit d.other) r ∙ d.no_j)))

                x : (c : ℕ) × (c < 16) × (bit d.other c ≡ true) × (union (bit A) (bit B) c ≡ false)
                x = crowded 16 (both i j) (bit d.other) (union (bit A) (bit B)) apart
                    (λ y e. ap (λ (t : Bool). t || bit B y) (own y e))
                    (omega (
                      arith,
                      d.many,
                      pair_size 16 i j p (omega (arith, most)),
                      size-or 16 (bit A) (bit B),
                      wide_size n A most c.below_a,
                      wide_size n B most c.below_b,
                      c.most,
                    ))

    pub dead-none : best n 1 F k ≡ none
    dead-none = never_best n 1 F k fails

-- ---- as the code says it
dead_other : (mask i p j : ℕ) → i < 16 → p ≡ 2 ^ i → bit (bit_and mask (65535 - p)) i ≡ false
dead_other mask i p j h e =
    bit-and mask (65535 - p) i ∙ ap (λ (t : Bool). bit mask i && t)
    (bit_not 16 p i (subst (λ (m : ℕ). m < 65536) (sym e) (pow-lt h)) h
    ∙ ap not (ap (λ (m : ℕ). bit m i) e ∙ power_bit i i ∙ eq-eqb i i refl)) ∙ and-false (bit mask i)

pub dead_code : (mask i j k p q : ℕ) → i < 16 → j < 16 → p ≡ 2 ^ i → q ≡ 2 ^ j → k < 2
    + size 16 (bit (bit_and (bit_and mask (65535 - p)) (65535 - q))) → Dead mask i j k
dead_code mask i j k p q hi hj ep eq many = record {
  other = bit_and (bit_and mask (65535 - p)) (65535 - q);
  part = λ c e. and_left (bit mask c) (bit (65535 - p) c) (sym (bit-and mask (65535 - p) c) ∙ first c e);
  no_i = bit-and (bit_and mask (65535 - p)) (65535 - q) i
      ∙ ap (λ (t : Bool). t && bit (65535 - q) i) (dead_other mask i p j hi ep);
  no_j = dead_other (bit_and mask (65535 - p)) j q i hj eq;
  many = many;
}
  where
    first : (c : ℕ) → bit (bit_and (bit_and mask (65535 - p)) (65535 - q)) c ≡ true → bit (bit_and mask (65535 - p)) c
        ≡ true
    first c e = and_left (bit (bit_and mask (65535 - p)) c) (bit (65535 - q) c)
        (sym (bit-and (bit_and mask (65535 - p)) (65535 - q) c) ∙ e)

-- no own set has more inputs than a cell
pub above_small : (n r : ℕ) (F : ℕ → Bool) (k low : ℕ) → r ≤ low → k ≤ low → above n low (best n r F k) ≡ none
unfolding first
above_small n r F k low more h =
    let e : k - low ≡ 0 = omega arith in
    sym (above_best n r F k low more) ∙ ap (λ (m : ℕ). first m (λ i. first (i + 1) (of_sizes n r F (k - i)))) e
