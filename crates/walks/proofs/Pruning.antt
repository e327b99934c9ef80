-- Where a walk over masks may stop: the inputs that cannot be free no longer fit, or one of them was passed over.
-- Assumes nothing.
use mathlib.Core.Path.{◌≡◌, refl, sym, ap, ap₂, ◌∙◌, subst}
use mathlib.Core.Bool.{Bool, true, false, not, ◌&&◌, ◌||◌}
use mathlib.Core.List.{List}
use Prim.Native.Nat.{ℕ, zero, suc, ◌+◌, ◌-◌, ◌/◌, ◌^◌, ◌<◌, ◌≤◌}
use native.Mathlib.Nat.{not-suc-le-zero, lt_of_lt_of_le, lt_of_le_of_lt, add-zero}
use native.Mathlib.Decide.{ℕ_discrete, dec_lt}
use native.Mathlib.Omega.{arith}
use lib.Bits.{bit_and, and_le_l}
use lib.Pow.{pow_mono, pow_pos, pow-lt, high}
use borrow.Author.Tests.{eqb-true}
use Rattle.bits.specs.Numbers.{bit, val}
use Rattle.bits.specs.Sets.{union, rest, Apart, size}
use Rattle.bits.proofs.Bools.{clash}
use Rattle.bits.proofs.Counting.{size-or}
use Rattle.bits.proofs.Numbers.{bit-shr}
use Rattle.bits.proofs.Sizes.{size-sum}
use Rattle.bits.proofs.Sums.{bit_not}
use Rattle.bits.proofs.Machine.{ones-size, bit-and}
use Rattle.splits.specs.Columns.{few_columns}
use Rattle.splits.proofs.Possible.{possible_iff}
use Rattle.best.specs.Search.{Answer, none, split, over_masks, try_a, try_b}
use Rattle.best.specs.Walk.{Range, SharedRange}
use Rattle.best.proofs.First.{first-nothing}
use Rattle.best.proofs.Tries.{try_b_split, try_a_size, try_a_is}
use Rattle.best.proofs.Ranges.{even, range_lt, upper_has}
use Rattle.best.proofs.Walks.{Turn, mask_of}
use Rattle.witness.proofs.Members.{bit_within, rules_more}
use Rattle.witness.specs.Witness.{Inside, single, RulesOut}
use Rattle.known.specs.Notes.{Needs, BadPairs, Adds, Outside}

-- ---- counting

-- of a larger set some member is not in a smaller one
missing : (n : ℕ) (s t : ℕ → Bool) → size n t < size n s → (c : ℕ) × (c < n) × (s c ≡ true) × (t c ≡ false)
unfolding size
missing zero s t h = absurd (not-suc-le-zero h)
missing (suc n) s t h = go (s n) (t n) refl refl (missing n s t)
  where
    up : (c : ℕ) × (c < n) × (s c ≡ true) × (t c ≡ false) → (c : ℕ) × (c < suc n) × (s c ≡ true) × (t c ≡ false)
    up w = (w.0, omega (arith, w.1), w.2, w.3)

    go : (u v : Bool) → s n ≡ u → t n ≡ v → (size n t < size n s → (c : ℕ) × (c < n) × (s c ≡ true) × (t c ≡ false))
        → (c : ℕ) × (c < suc n) × (s c ≡ true) × (t c ≡ false)
    go true false p q ih = (n, omega arith, p, q)
    go true true p q ih = up (ih (omega (arith, ap val p, ap val q)))
    go false v p q ih = up (ih (omega (arith, ap val p)))

-- where a set has no room for the members of another besides those it holds, one is missing
pub crowded : (n : ℕ) (acc left S : ℕ → Bool) → ((j : ℕ) → j < n → left j ≡ true → acc j ≡ false) → Inside acc S
    → size n S < size n acc + size n left
    → (c : ℕ) × (c < n) × (left c ≡ true) × (S c ≡ false)
crowded n acc left S off inside h = pick (missing n (union acc left) S
    (omega (arith, size-sum n acc left (union acc left) (λ j l. join (acc j) (left j) (off j l)))))
  where
    join : (u v : Bool) → (v ≡ true → u ≡ false) → val u + val v ≡ val (u || v)
    join true true f = let z : true ≡ false = f refl in absurd (clash refl z)
    join true false f = refl
    join false v f = omega arith

    pick : (c : ℕ) × (c < n) × (union acc left c ≡ true) × (S c ≡ false) → (c : ℕ) × (c < n) × (left c ≡ true)
        × (S c ≡ false)
    pick w = (w.0, w.1, go (acc w.0) refl w.2, w.3)
      where
        go : (u : Bool) → acc w.0 ≡ u → (u || left w.0) ≡ true → left w.0 ≡ true
        go true q e = absurd (clash (inside w.0 q) w.3)
        go false q e = e

-- a mask has as many members among 16 positions as among its own
pub wide_size : (n m : ℕ) → n ≤ 16 → m < 2 ^ n → size 16 (bit m) ≡ size n (bit m)
wide_size n m h l = sym (ones-size 16 m (lt_of_lt_of_le l (pow_mono {i = n} {j = 16} h))) ∙ ones-size n m l

-- `need & !acc`
module _ (need acc : ℕ) (small : acc < 65536) where
  pub left-bit : (j : ℕ) → j < 16 → bit (bit_and need (65535 - acc)) j ≡ (bit need j && not (bit acc j))
  left-bit j l = bit-and need (65535 - acc) j ∙ ap (λ (t : Bool). bit need j && t) (bit_not 16 acc j small l)

  left-off : (j : ℕ) → j < 16 → bit (bit_and need (65535 - acc)) j ≡ true → (bit need j ≡ true) × (bit acc j ≡ false)
  left-off j l e = go (bit need j) (bit acc j) refl refl (sym (left-bit j l) ∙ e)
    where
      go : (u v : Bool) → bit need j ≡ u → bit acc j ≡ v → (u && not v) ≡ true → (bit need j ≡ true)
          × (bit acc j ≡ false)
      go true false p q f = (p, q)
      go true true p q f = absurd (clash f refl)
      go false v p q f = absurd (clash f refl)

-- a mask of a range is one of the machine's
pub mask_fits : {n p acc : ℕ} → Range n p acc → acc < 2 ^ 16
mask_fits {n} r = lt_of_lt_of_le r.below (pow_mono {i = n} {j = 16} r.most)

-- ---- the masks of a range have what is made already
module _ {n p acc : ℕ} (r : Range n p acc) (i : ℕ) (l : i < 2 ^ p) where
  pub range_stays : (j : ℕ) → p ≤ j → bit (acc + i) j ≡ bit acc j
  range_stays j h =
      let e : j ≡ p + (j - p) = omega arith in
      let a : (acc + i) / 2 ^ p ≡ acc / 2 ^ p = ap (λ (m : ℕ). (m + i) / 2 ^ p) (even r) ∙ high (acc / 2 ^ p) p l in
      ap (bit (acc + i)) e ∙ sym (bit-shr (acc + i) p (j - p)) ∙ ap (λ (m : ℕ). bit m (j - p)) a ∙ bit-shr acc p (j - p)
      ∙ ap (bit acc) (sym e)

  pub range_has : Inside (bit acc) (bit (acc + i))
  range_has j e = elim (dec_lt j p) [ yes g ↦ absurd (clash e (r.low j g)) | no g ↦ range_stays j (omega arith) ∙ e ]

-- ---- what is never answered
module _ (n r : ℕ) (F : ℕ → Bool) where
  pub try_b_never : (q A B : ℕ) → (size n (bit B) ≡ q → Apart n (bit A) (bit B) → few_columns n F (bit A) (bit B) (2 ^ r)
      ≡ false) → try_b n r F q A B ≡ none
  try_b_never q A B h = go (try_b n r F q A B) refl
    where
      go : (a : Answer) → try_b n r F q A B ≡ a → a ≡ none
      go none e = refl
      go (split A' B') e =
          let w = try_b_split n r F q A B A' B' e in
          absurd (clash ((possible_iff n F (bit A) (bit B) w.apart r).1 w.possible) (h w.size_b w.apart))

  -- an input that cannot be free, and is
  pub lacks : (P : ℕ → Bool) (A B : ℕ) (c : ℕ) → RulesOut n F (2 ^ r) P (single c) → Inside P (bit A)
      → union (bit A) (bit B) c ≡ false → Apart n (bit A) (bit B)
      → few_columns n F (bit A) (bit B) (2 ^ r) ≡ false
  lacks P A B c w inside out apart = w.fails (bit A) (bit B) apart inside
      (λ j e. ap (λ (i : ℕ). rest (bit A) (bit B) i) (eqb-true j c e) ∙ ap not out)

  -- a pair of masks that has no room for what is needed; S has of it what the pair has
  no_room : (P S : ℕ → Bool) (A B need acc : ℕ) → Needs n F (2 ^ r) P need → acc < 65536 → Inside P (bit A)
      → Inside (bit acc) S → ((c : ℕ) → bit need c ≡ true → S c ≡ false → union (bit A) (bit B) c ≡ false)
      → size 16 S < size 16 (bit acc) + size 16 (bit (bit_and need (65535 - acc)))
      → Apart n (bit A) (bit B) → few_columns n F (bit A) (bit B) (2 ^ r) ≡ false
  no_room P S A B need acc w small has inside out h apart =
      let x = crowded 16 (bit acc) (bit (bit_and need (65535 - acc))) S (λ j l e. (left-off need acc small j l e).1)
      inside h in
      let e = (left-off need acc small x.0 x.1 x.2).0 in
      lacks P A B x.0 (w x.0 e) has (out x.0 e x.3) apart

  -- ---- shared masks
  module _ (own need : ℕ) (w : Needs n F (2 ^ r) (bit own) need) (off : (c : ℕ) → bit need c ≡ true → bit own c ≡ false)
      {p acc : ℕ} (g : SharedRange n own p acc)
      (k : ℕ) where
    without : (q c m : ℕ) → bit need c ≡ true → bit m c ≡ false → try_b n r F q own m ≡ none
    without q c m e f = try_b_never q own m (λ s apart. lacks (bit own) own m c (w c e) (λ j h. h) (ap₂ ◌||◌ (off c e) f)
        apart)

    pub shared_crowded : k < size 16 (bit (bit_and need (65535 - acc)))
        → over_masks p acc (try_b n r F (size n (bit acc) + k) own) ≡ none
    shared_crowded h = first-nothing (2 ^ p) _ (λ i l. try_b_never (size n (bit acc) + k) own (acc + i)
        (λ s apart. at i l s apart))
      where
        at : (i : ℕ) → i < 2 ^ p → size n (bit (acc + i)) ≡ size n (bit acc) + k → Apart n (bit own) (bit (acc + i))
            → few_columns n F (bit own) (bit (acc + i)) (2 ^ r) ≡ false
        at i l s apart =
            no_room (bit own) (bit (acc + i)) own (acc + i) need acc w (mask_fits g.range) (λ j h. h)
            (range_has g.range i l) (λ c e f. ap₂ ◌||◌ (off c e) f)
            (omega (
              arith,
              wide_size n acc g.range.most g.range.below,
              wide_size n (acc + i) g.range.most
                  (range_lt g.range i l),
            )) apart

    pub shared_passed : need < 65536 → bit (bit_and need (65535 - acc)) p ≡ true
        → over_masks p acc (try_b n r F (size n (bit acc) + k) own) ≡ none
    shared_passed small h =
        let p-lt : p < 16 = bit_within (bit_and need (65535 - acc)) 16 p
        (lt_of_le_of_lt (and_le_l need (65535 - acc)) small) h in
        let e = left-off need acc (mask_fits g.range) p p-lt h in
        first-nothing (2 ^ p) _ (λ i l. without (size n (bit acc) + k) p (acc + i) e.0
        (range_stays g.range i l p (omega arith) ∙ e.1))

  -- ---- own masks
  module _ (need : ℕ) {p acc : ℕ} (w : Needs n F (2 ^ r) (bit acc) need) (g : Range n p acc) (q k : ℕ) where
    pub own_crowded : q + k < size 16 (bit (bit_and need (65535 - acc)))
        → over_masks p acc (try_a n r F (size n (bit acc) + k) q) ≡ none
    own_crowded h = first-nothing (2 ^ p) _ (λ i l. tried i l
        (ℕ_discrete (size n (bit (acc + i))) (size n (bit acc) + k)))
      where
        pairs : (i : ℕ) → i < 2 ^ p → size n (bit (acc + i)) ≡ size n (bit acc) + k → (B : ℕ) → B < 2 ^ n
            → size n (bit B) ≡ q → Apart n (bit (acc + i)) (bit B)
            → few_columns n F (bit (acc + i)) (bit B) (2 ^ r) ≡ false
        pairs i l s B b t apart =
            no_room (bit acc) (union (bit (acc + i)) (bit B)) (acc + i) B need acc w (mask_fits g) (range_has g i l)
            (λ j e. ap (λ (u : Bool). u || bit B j) (range_has g i l j e)) (λ c e f. f)
            (omega (
              arith,
              wide_size n acc g.most g.below,
              wide_size n (acc + i) g.most (range_lt g i l),
              wide_size n B g.most b,
              size-or 16 (bit (acc + i)) (bit B),
            )) apart

        tried : (i : ℕ) → i < 2 ^ p → Dec (size n (bit (acc + i)) ≡ size n (bit acc) + k)
            → try_a n r F (size n (bit acc) + k) q (acc + i) ≡ none
        tried i l (yes s) =
            try_a_is n r F (size n (bit acc) + k) q (acc + i) s
            ∙ first-nothing (2 ^ n) _ (λ B b. try_b_never q (acc + i) B (λ t apart. pairs i l s B b t apart))
        tried i l (no s) = try_a_size n r F (size n (bit acc) + k) q (acc + i) s

pub left_lt : (need acc : ℕ) → need < 65536 → bit_and need (65535 - acc) < 65536
left_lt need acc h = lt_of_le_of_lt (and_le_l need (65535 - acc)) h

-- a needed input that the own mask lacks is not own
pub left-outside : (need acc : ℕ) → need < 65536 → acc < 65536 → Outside (bit_and need (65535 - acc)) acc
left-outside need acc h g c e = (left-off need acc g c
    (bit_within (bit_and need (65535 - acc)) 16 c (left_lt need acc h) e) e).1

-- the needed inputs of a mask with one position more
pub own_more : {n : ℕ} {F : ℕ → Bool} {m p acc k : ℕ} (r : Range n p acc) (d : Turn n p acc k) (l : List (List ℕ))
    (need more : ℕ) → BadPairs n F m l
    → Needs n F m (bit acc) need → Adds l acc (p - 1) need more → Needs n F m (bit (acc + mask_of p)) more
own_more {n} {F} {m} {p} {acc} r d l need more w x a = a.needs n m F (bit (acc + mask_of p)) w inside has
    (λ c e. rules_more (x c e) inside (λ y h. h))
  where
    inside : Inside (bit acc) (bit (acc + mask_of p))
    inside = range_has r (mask_of p) (subst (λ (m : ℕ). m < 2 ^ p) (sym d.mask) (pow-lt (omega (arith, d.down))))

    has : bit (acc + mask_of p) (p - 1) ≡ true
    has =
        ap (λ (m : ℕ). bit (acc + m) (p - 1)) d.mask
        ∙ ap (λ (m : ℕ). bit m (p - 1)) (sym (add-zero (acc + 2 ^ (p - 1))))
        ∙ upper_has (subst (λ (p : ℕ). Range n p acc) d.down r) 0 (pow_pos (p - 1))
