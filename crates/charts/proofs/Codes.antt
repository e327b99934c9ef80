-- The number of a column among the different columns of its b, found in the chart's row of b. Assumes nothing.
use mathlib.Core.Path.{◌≡◌, refl, sym, ap, ◌∙◌, subst}
use mathlib.Core.Bool.{Bool, true, false, cond}
use mathlib.Core.List.{List, [], ◌∷◌, map}
use Prim.Native.Nat.{ℕ, zero, suc, ◌+◌, ◌-◌, ◌*◌, ◌^◌, ◌<◌, ◌≤◌}
use native.Mathlib.Nat.{not-suc-le-zero}
use native.Mathlib.Omega.{arith}
use Rattle.std.proofs.Common.{Option, Some}
use lib.Bits.{bit_and}
use lib.Dec.{eqb}
use lib.ListN.{length, get_or, take, drop, length-drop}
use lib.Seq.{get_or-take, get_or-drop, length-take-le}
use borrow.Author.Tests.{leb-true, eq-eqb}
use Rattle.bits.specs.Numbers.{bit}
use Rattle.bits.specs.Places.{found_below}
use Rattle.bits.specs.Sets.{size, gather, spread}
use Rattle.bits.proofs.Places.{found_some}
use Rattle.bits.proofs.Below.{every_at}
use Rattle.bits.proofs.Machine.{and-spread}
use Rattle.bits.proofs.Spreading.{gather-lt, gather-spread, spread-lt}
use Rattle.bits.proofs.Sums.{spread-two}
use Rattle.columns.specs.declared.split.Split.{Split}
use Rattle.splits.specs.Columns.{index, member, columns, few_columns}
use Rattle.splits.specs.Pair.{code, code_at}
use Rattle.columns.specs.Reading.{Held, Within, read_from, first_reads, own_part, shared_part, column_of, column_at}
use Rattle.columns.specs.Reading.{columns_of, Chart}
use Rattle.splits.proofs.Firsts.{index-lt, get_d_index, firsts_has}
use Rattle.splits.proofs.Stored.{index_is, rep_at, reps_len}
use Rattle.splits.proofs.Few.{code_at_gather}
use Rattle.columns.proofs.Reading.{within_spread}
use Rattle.charts.proofs.Charts.{row_room}

-- the test holds at each b
pub few_at : (n : ℕ) (F : ℕ → Bool) (A B : ℕ → Bool) (m : ℕ) → few_columns n F A B m ≡ true → (b : ℕ) → b < 2 ^ size n B
    → length (columns n F A B b) ≤ m
unfolding few_columns
few_at n F A B m e b h = leb-true (length (columns n F A B b)) m (every_at (2 ^ size n B) _ e b h)

-- ---- a list that begins with another, of which x is a member: x has the same place

index-before : (x : ℕ) (l : List ℕ) (d j : ℕ) → j < index x l → eqb x (get_or l j d) ≡ false
index-before x [] d j h = absurd (not-suc-le-zero h)
index-before x (y ∷ l) d j h = go (eqb x y) refl j h (index-before x l d)
  where
    go : (t : Bool) → eqb x y ≡ t → (j : ℕ) → j < cond t 0 (suc (index x l))
        → ((j : ℕ) → j < index x l → eqb x (get_or l j d) ≡ false)
        → eqb x (get_or (y ∷ l) j d) ≡ false
    go true e j h ih = absurd (not-suc-le-zero h)
    go false e zero h ih = e
    go false e (suc j) h ih = ih j (omega arith)

same_place : (x : ℕ) (row l : List ℕ) (d : ℕ) → length l ≤ length row
    → ((i : ℕ) → i < length row → get_or row i 0 ≡ get_or l i d) → member x l ≡ true
    → index x row ≡ index x l
same_place x row l d few same e =
    let h = index-lt x l e in
    index_is x row (index x l) (λ j g. ap (eqb x) (same j (omega arith)) ∙ index-before x l d j g) (omega arith)
    (eq-eqb x (get_or row (index x l) 0) (sym (same (index x l) (omega arith) ∙ get_d_index x l d e)))

-- x has bits at own and shared inputs, base those at shared inputs
module _ (s : Split) (h : Held s) (F : ℕ → Bool) (x base : ℕ) (at : x ≡ read_from s x)
    (low : base ≡ bit_and x s.shared) where
  base_is : base ≡ spread s.n (bit s.shared) (shared_part s x)
  base_is = low ∙ and-spread s.n x s.shared
      (omega (arith, at, spread-lt s.n (first_reads s) (gather s.n (first_reads s) x)))

  x_parts : x ≡ base + spread s.n (bit s.own) (own_part s x)
  x_parts =
      subst (λ (y : ℕ). y ≡ spread s.n (bit s.own) (own_part s y)
      + spread s.n (bit s.shared) (shared_part s y)) (sym at)
      (spread-two s.n (bit s.own) (bit s.shared) h.apart (gather s.n (first_reads s) x))
      ∙ omega (arith, base_is)

  pub base-le : base ≤ x
  base-le = omega (arith, x_parts)

  own_is : x - base ≡ spread s.n (bit s.own) (own_part s x)
  own_is = omega (arith, x_parts)

  pub base_within : Within s.n s.shared base
  base_within = subst (Within s.n s.shared) (sym base_is)
      (within_spread s.n s.shared (shared_part s x) (gather-lt s.n (bit s.shared) x))

  pub own_within : Within s.n s.own (x - base)
  own_within = subst (Within s.n s.own) (sym own_is)
      (within_spread s.n s.own (own_part s x) (gather-lt s.n (bit s.own) x))

  b_is : shared_part s base ≡ shared_part s x
  b_is = ap (shared_part s) base_is ∙ gather-spread s.n (bit s.shared) (shared_part s x)
      (gather-lt s.n (bit s.shared) x)

  a_is : own_part s (x - base) ≡ own_part s x
  a_is = ap (own_part s) own_is ∙ gather-spread s.n (bit s.own) (own_part s x) (gather-lt s.n (bit s.own) x)

  -- the chart's row of b, as the code cuts it out
  module _ {limit : ℕ} {seen : List ℕ} (chart : Chart s F limit seen) (from m : ℕ)
      (start : from ≡ shared_part s x * limit) (whole : m ≡ limit) where
    abbrev row : List ℕ
    row = take m (drop from seen)

    pub row_there : from + limit ≤ length seen
    row_there = omega (
      arith,
      row_room limit (2 ^ size s.n (bit s.shared)) (length seen) (shared_part s x)
          (gather-lt s.n (bit s.shared) x) chart.long,
    )

    pub row_length : length (take m (drop from seen)) ≡ limit
    row_length = length-take-le m (drop from seen) (omega (arith, row_there, length-drop from seen)) ∙ whole

    row_at : (i : ℕ) → i < limit → get_or row i 0 ≡ get_or seen (shared_part s x * limit + i) 0
    row_at i l = get_or-take m (drop from seen) i 0 (omega arith) ∙ get_or-drop from seen i 0
        ∙ ap (λ (k : ℕ). get_or seen (k + i) 0) start

    pub row_own : (i : ℕ) → i < limit → Within s.n s.own (get_or (take m (drop from seen)) i 0)
    row_own i l = subst (Within s.n s.own) (sym (row_at i l))
        (chart.own (shared_part s x) i (gather-lt s.n (bit s.shared) x) l)

    abbrev stands : ℕ → List ℕ
    stands b = map (column_at s F b) (take limit row)

    -- the column's place among those that the row stands for is its number
    pub code_found : few_columns s.n F (bit s.own) (bit s.shared) limit ≡ true → {o : Option ℕ}
        → o ≡ found_below limit (index (column_at s F (shared_part s base) (x - base))
        (map (column_at s F (shared_part s base)) (take limit (take m (drop from seen)))))
        → o ≡ Some (code_at s.n F (bit s.own) (bit s.shared) (gather s.n (first_reads s) x))
    unfolding code columns
    code_found few e =
        e ∙ sym (found_some limit _ (omega (arith, place_is, index-lt (column_at s F b (x - base)) (columns_of s F b) here, most)))
        ∙ ap (λ (i : ℕ). Some i)
        (place_is ∙ ap (code s.n F (bit s.own) (bit s.shared) b) a_is
        ∙ sym (code_at_gather s.n F (bit s.own) (bit s.shared) x))
      where
        b : ℕ
        b = shared_part s x

        small : shared_part s x < 2 ^ size s.n (bit s.shared)
        small = gather-lt s.n (bit s.shared) x

        long : length (stands (shared_part s x)) ≡ limit
        long = reps_len (column_at s F (shared_part s x)) row limit (omega (arith, row_length))

        here : member (column_at s F b (x - base)) (columns_of s F b) ≡ true
        here = firsts_has (column_of s F b) (2 ^ size s.n (bit s.own)) (own_part s (x - base))
            (gather-lt s.n (bit s.own) (x - base))

        most : length (columns_of s F b) ≤ limit
        most = few_at s.n F (bit s.own) (bit s.shared) limit few b small

        place_is : index (column_at s F (shared_part s base) (x - base)) (stands (shared_part s base))
            ≡ index (column_at s F b (x - base)) (columns_of s F b)
        place_is =
            ap (λ (b : ℕ). index (column_at s F b (x - base)) (stands b)) b_is
            ∙ same_place (column_at s F b (x - base)) (stands b) (columns_of s F b) (column_at s F b 0)
            (omega (arith, long, most))
            (λ i l. let g : i < limit = omega (arith, long) in
            rep_at (column_at s F b) row limit (omega (arith, row_length)) i g ∙ ap (column_at s F b) (row_at i g)
            ∙ chart.stands b i small g) here
