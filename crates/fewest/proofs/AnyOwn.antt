-- Where any set of inputs can be the own set of a split with nothing shared, every best split takes K inputs and shares
-- none, and H is such a table again: H at an input is F at an assignment whose own part depends on D alone. So the
-- sheet is made, of cells that are full, and is the fewest. Assumes nothing.
use mathlib.Core.Path.{◌≡◌, refl, sym, ap, ap₂, ◌∙◌, subst, fun_ext}
use mathlib.Core.Bool.{Bool, true, false, cond, not, ◌||◌}
use mathlib.Core.List.{List, [], ◌∷◌}
use Prim.Native.Nat.{ℕ, zero, suc, ◌+◌, ◌-◌, ◌*◌, ◌/◌, ◌%◌, ◌^◌, ◌<◌, ◌≤◌}
use native.Mathlib.Nat.{pow-suc, suc-mul, mod-eq_of_lt, div-lt_iff_lt-mul}
use native.Mathlib.Numerals.{add-one}
use native.Mathlib.Decide.{dec_lt}
use native.Mathlib.Omega.{arith}
use lib.Dec.{ltb}
use lib.Pow.{pow_pos}
use lib.ListN.{length, get_or, get_or-eq_default}
use borrow.Author.Tests.{lt-ltb, le-ltb}
use Rattle.bits.specs.Numbers.{bit, val, number}
use Rattle.bits.specs.Sets.{rest, Agree, size, gather, spread}
use Rattle.bits.proofs.Bools.{clash, false_of}
use Rattle.bits.proofs.Numbers.{val-bit, bit-number, bit-mod, bit-zero, number_lt}
use Rattle.bits.proofs.Sizes.{size-lt, size_ext}
use Rattle.bits.proofs.Counting.{size_none, size_all}
use Rattle.bits.proofs.Spreading.{gather-lt, gather-bit, bit-spread_in}
use Rattle.splits.specs.Split.{reads_d, reads_h, Possible}
use Rattle.splits.specs.Columns.{assign, column, columns}
use Rattle.splits.specs.Pair.{bit_h, table_h}
use Rattle.splits.proofs.Firsts.{firsts_from}
use Rattle.splits.proofs.Parts.{bit-assign, assign-lt}
use Rattle.splits.proofs.Through.{possible_through}
use Rattle.splits.proofs.Same.{possible_ext}
use Rattle.best.specs.Best.{Candidate, Best}
use Rattle.best.specs.Search.{split, best}
use Rattle.best.proofs.Best.{best_split, best_some}
use Rattle.sheets.specs.Network.{Cell}
use Rattle.networks.proofs.Values.{member_at}
use Rattle.bits.proofs.Lists.{default}
use Rattle.chains.specs.Chain.{first_cell, next_signals, next_table, last_cell}
use Rattle.chains.specs.Words.{Makes, ends, goes}
use Rattle.fewest.specs.Joining.{AnyOwn}
use Rattle.chains.proofs.One.{next-inputs, next-length}

high_bit : (i k : ℕ) → i < 2 ^ (k + 1) → i / 2 ^ k ≡ val (bit i k)
high_bit i k h =
    let q : i / 2 ^ k < 2 = (div-lt_iff_lt-mul {k = 2 ^ k} {x = i} {y = 2} (pow_pos k)).1
    (omega (arith, pow-suc 2 k, ap (λ (m : ℕ). 2 ^ m) (add-one k))) in
    sym (val-bit i k ∙ mod-eq_of_lt q)

-- ---- H is such a table again
module _ (n : ℕ) (F : ℕ → Bool) (A B : ℕ → Bool) (alone : (j : ℕ) → j < n → B j ≡ false) where
  abbrev s : ℕ → Bool
  s = reads_h A B

  abbrev k : ℕ
  k = size n (reads_h A B)

  -- nothing is shared: b is always 0
  shares_none : (x : ℕ) → gather n B x ≡ 0
  shares_none x =
      let e : size n B ≡ 0 = size_ext n B (λ j. false) alone ∙ size_none n in
      let h : gather n B x < 2 ^ 0 = subst (λ (m : ℕ). gather n B x < 2 ^ m) e (gather-lt n B x) in
      omega arith

  -- an own assignment that has column d, or column 0 where there is no column d
  own_of : (d : ℕ) → (a : ℕ) × (column n F A B 0 a ≡ get_or (columns n F A B 0) d (column n F A B 0 0))
  unfolding columns
  own_of d = elim (dec_lt d (length l)) [
    | yes h ↦ let w = firsts_from (column n F A B 0) (2 ^ size n A) (get_or l d 0) (member_at l d h)
        in (w.0, w.2 ∙ default l d 0 (column n F A B 0 0) h)
    | no h ↦ (0, sym (get_or-eq_default l (column n F A B 0 0) {n = d} (omega arith)))
  ]
    where
      l : List ℕ
      l = columns n F A B 0

  -- the assignment that stands for H's input i
  at : ℕ → ℕ
  at i = assign n A B (own_of (val (bit i k))).0 0 (gather n (rest A B) (spread n s (i % 2 ^ k)))

  at_lt : (i : ℕ) → at i < 2 ^ n
  unfolding at
  at_lt i = assign-lt n A B (own_of (val (bit i k))).0 0 (gather n (rest A B) (spread n s (i % 2 ^ k)))

  H_at : (i : ℕ) → i < 2 ^ (k + 1) → bit_h n F A B i ≡ F (at i)
  unfolding at bit_h column
  H_at i h =
      let x = spread n s (i % 2 ^ k) in
      let c = gather n (rest A B) x in
      let w = own_of (val (bit i k)) in
      ap (λ (b : ℕ). bit (get_or (columns n F A B b) (i / 2 ^ k) (column n F A B b 0)) c) (shares_none x)
      ∙ ap (λ (d : ℕ). bit (get_or (columns n F A B 0) d (column n F A B 0 0)) c) (high_bit i k h)
      ∙ ap (λ (m : ℕ). bit m c) (sym w.1)
      ∙ bit-number (2 ^ size n (rest A B)) (λ c. F (assign n A B w.0 0 c)) c (gather-lt n (rest A B) x)

  -- a set of H's inputs, as a set of F's: own inputs stand for D
  back : (ℕ → Bool) → ℕ → Bool
  back X j = cond (A j) (X k) (X (size j s))

  -- inputs that agree on it stand for assignments that agree
  at_agree : (X : ℕ → Bool) (i i' : ℕ) → Agree (k + 1) X i i' → Agree n (back X) (at i) (at i')
  unfolding at back
  at_agree X i i' h j l m =
      bit-assign n A B (own_of (val (bit i k))).0 0 (gather n (rest A B) (spread n s (i % 2 ^ k))) j l
      ∙ go (A j) refl (B j) (alone j l) refl m
      ∙ sym (bit-assign n A B (own_of (val (bit i' k))).0 0 (gather n (rest A B) (spread n s (i' % 2 ^ k))) j l)
    where
      -- a free input's bit
      free : (i : ℕ) → rest A B j ≡ true → s j ≡ true
          → bit (gather n (rest A B) (spread n s (i % 2 ^ k))) (size j (rest A B)) ≡ bit i (size j s)
      free i p q =
          gather-bit n (rest A B) (spread n s (i % 2 ^ k)) j l p ∙ bit-spread_in n s (i % 2 ^ k) j l q
          ∙ bit-mod i k (size j s) (size-lt n s j l q)

      go : (u : Bool) → A j ≡ u → (w : Bool) → w ≡ false → B j ≡ w → cond u (X k) (X (size j s)) ≡ true
          → cond u (bit (own_of (val (bit i k))).0 (size j A))
          (cond w (bit 0 (size j B)) (bit (gather n (rest A B) (spread n s (i % 2 ^ k))) (size j (rest A B))))
          ≡ cond u (bit (own_of (val (bit i' k))).0 (size j A))
          (cond w (bit 0 (size j B)) (bit (gather n (rest A B) (spread n s (i' % 2 ^ k))) (size j (rest A B))))
      go true a w z b m = ap (λ (t : Bool). bit (own_of (val t)).0 (size j A)) (h k (omega arith) m)
      go false a true z b m = cc
      go false a false z b m =
          let p : rest A B j ≡ true = ap₂ (λ (t u : Bool). not (t || u)) a b in
          let q : s j ≡ true = ap₂ (λ (t u : Bool). u || not (t || u)) a b in
          free i p q ∙ h (size j s) (omega (arith, size-lt n s j l q)) m ∙ sym (free i' p q)

  any_next : AnyOwn n F → AnyOwn (k + 1) (bit_h n F A B)
  unfolding back
  any_next any A' =
      possible_through (k + 1) (bit_h n F A B) A' none n F A'' none at
      (λ i i' h j l m. at_agree (reads_d A' none) i i' h j l (sees_d j (A j) m))
      (λ i i' h j l m. at_agree (reads_h A' none) i i' h j l (sees_h j (A j) m))
      (λ i h. (at_lt i, H_at i h)) 1 (any A'')
    where
      none : ℕ → Bool
      none j = false

      A'' : ℕ → Bool
      A'' = back A'

      sees_d : (j : ℕ) (u : Bool) → (cond u (A' k) (A' (size j s)) || false) ≡ true
          → cond u (A' k || false) (A' (size j s) || false) ≡ true
      sees_d j true m = m
      sees_d j false m = m

      sees_h : (j : ℕ) (u : Bool) → (false || not (cond u (A' k) (A' (size j s)) || false)) ≡ true
          → cond u (false || not (A' k || false)) (false || not (A' (size j s) || false)) ≡ true
      sees_h j true m = m
      sees_h j false m = m

-- ---- the best split takes K inputs and shares none

size-first : (n K : ℕ) → K ≤ n → size n (λ j. ltb j K) ≡ K
unfolding size
size-first zero K h = omega arith
size-first (suc n) K h = elim (dec_lt n K) [
  | yes l ↦ let e : K ≡ suc n = omega arith in
      size_ext (suc n) (λ j. ltb j K) (λ j. true) (λ j g. lt-ltb j K (omega arith)) ∙ size_all (suc n) ∙ sym e
  | no l ↦ omega (arith, size-first n K (omega arith), ap val (le-ltb n K (omega arith)))
]

-- what is known of the best split then
record Takes (n K : ℕ) (F : ℕ → Bool) : Type 0 where
  A : ℕ
  B : ℕ
  is_best : Best n K 1 F A B
  full : size n (bit A) ≡ K
  alone : (j : ℕ) → j < n → bit B j ≡ false

takes : (n K : ℕ) (F : ℕ → Bool) → 2 ≤ K → K < n → AnyOwn n F → Takes n K F
takes n K F two more any = go (best_some n 1 F K first 0 candidate possible)
  where
    first : ℕ
    first = number n (λ j. ltb j K)

    size_is : size n (bit first) ≡ K
    size_is = size_ext n (bit first) (λ j. ltb j K) (λ j h. bit-number n (λ j. ltb j K) j h)
        ∙ size-first n K (omega arith)

    candidate : Candidate n K 1 first 0
    candidate = record {
      below_a = number_lt n (λ j. ltb j K);
      below_b = pow_pos n;
      apart = λ j l e. absurd (clash e (bit-zero j));
      more = omega (arith, size_is);
      most = omega (arith, size_is, size_ext n (bit 0) (λ j. false) (λ j h. bit-zero j), size_none n);
    }

    possible : Possible n F (bit first) (bit 0) 1
    possible = subst (λ (B : ℕ → Bool). Possible n F (bit first) B 1) (fun_ext (λ j. sym (bit-zero j)))
        (any (bit first))

    go : (A : ℕ) × (B : ℕ) × (best n 1 F K ≡ split A B) → Takes n K F
    go w = from (best_split n 1 F K w.0 w.1 w.2)
      where
        from : Best n K 1 F w.0 w.1 → Takes n K F
        from b =
            let large = (b.ahead first 0 candidate possible).largest_a in
            record {
              A = w.0;
              B = w.1;
              is_best = b;
              full = omega (arith, large, size_is, b.candidate.most);
              alone = λ j l. false_of (bit w.1 j) (λ e. omega
                  (arith, large, size_is, b.candidate.most, size-lt n (bit w.1) j l e));
            }

any_table : (l : List ℕ) (T A B i : ℕ) → ((j : ℕ) → j < length l → bit B j ≡ false) → AnyOwn (length l) (bit T)
    → AnyOwn (length (next_signals l A B i)) (bit (next_table l T A B))
unfolding table_h
any_table l T A B i alone any A' =
    let n = length l in
    let m = size n (reads_h (bit A) (bit B)) + 1 in
    let H = bit_h n (bit T) (bit A) (bit B) in
    subst (λ (m : ℕ). Possible m (bit (next_table l T A B)) A' (λ j. false) 1) (sym (next-inputs l A B i))
    (possible_ext m H (bit (next_table l T A B)) (λ x h. sym (bit-number (2 ^ m) H x h)) A' (λ j. false) 1
    (any_next n (bit T) (bit A) (bit B) alone any A'))

-- ---- so a sheet is made, of p + 1 cells: each but the last drops K - 1 signals
pub record MadeFull (K i : ℕ) (l : List ℕ) (T : ℕ) : Type 0 where
  pub cells : List Cell
  pub makes : Makes K i l T cells
  pub p : ℕ
  pub count : length cells ≡ suc p
  pub full : p * (K - 1) + 1 < length l

last_full : (K i : ℕ) (l : List ℕ) (T : ℕ) → length l ≤ K → 2 ≤ length l → MadeFull K i l T
last_full K i l T h some = record { cells = last_cell l T ∷ []; makes = ends h; p = 0; count = refl; full = omega arith }

pub any_made : (f K i : ℕ) (l : List ℕ) (T : ℕ) → 2 ≤ K → length l ≤ f + K → 2 ≤ length l → AnyOwn (length l) (bit T)
    → MadeFull K i l T
any_made zero K i l T two h some any = last_full K i l T (omega arith) some
any_made (suc f) K i l T two h some any = elim (dec_lt K (length l)) [
  | no g ↦ last_full K i l T (omega arith) some
  | yes g ↦ go g (takes (length l) K (bit T) two g any) (any_made f K (suc i))
]
  where
    go : K < length l → Takes (length l) K (bit T)
        → ((l : List ℕ) (T : ℕ) → 2 ≤ K → length l ≤ f + K → 2 ≤ length l → AnyOwn (length l) (bit T)
        → MadeFull K (suc i) l T) → MadeFull K i l T
    go g t ih =
        let next = next-length l i t.is_best in
        let w = ih (next_signals l t.A t.B i) (next_table l T t.A t.B) two (omega (arith, next, t.full))
        (omega (arith, next, t.full))
        (any_table l T t.A t.B i t.alone any) in
        record {
          cells = first_cell l T t.A t.B ∷ w.cells;
          makes = goes g t.is_best w.makes;
          p = suc w.p;
          count = ap suc w.count;
          full = omega (arith, w.full, next, t.full, suc-mul w.p (K - 1));
        }
