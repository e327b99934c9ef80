-- A chart of the columns of every shared assignment, filled row by row. Assumes nothing.
use mathlib.Core.Path.{◌≡◌, refl, sym, ap, ◌∙◌, subst}
use mathlib.Core.Logic.{⊎_elim}
use mathlib.Core.Bool.{Bool}
use mathlib.Core.List.{List}
use Prim.Native.Nat.{ℕ, ◌+◌, ◌*◌, ◌^◌, ◌<◌, ◌≤◌}
use native.Mathlib.Nat.{not-suc-le-zero, add-mul, one-mul, mul_comm, mul-le-mul_right}
use native.Mathlib.Decide.{dec_lt}
use native.Mathlib.Omega.{arith}
use lib.ListN.{length, get_or, take, drop, length-drop, get_or-eq_default}
use lib.Seq.{get_or-take, get_or-drop, length-take-le}
use borrow.Rule.Slice.PartMut.{mid_of, put_mid, same_len_mid}
use Rattle.bits.specs.Numbers.{bit}
use Rattle.bits.specs.Sets.{size}
use Rattle.bits.proofs.Below.{below_suc}
use Rattle.tables.proofs.Placed.{placed-before, placed_in, placed-after}
use Rattle.columns.specs.declared.split.Split.{Split}
use Rattle.columns.specs.Reading.{Within, column_at, columns_of, Seen, Chart}
use Rattle.splits.proofs.Stored.{get_d_map_in}
use Rattle.columns.proofs.Reading.{within_zero}

-- a row below the last has room
pub row_room : (limit m long b : ℕ) → b < m → limit * m ≤ long → b * limit + limit ≤ long
row_room limit m long b h l = omega (
  arith,
  add-mul b 1 limit,
  one-mul limit,
  mul-le-mul_right {m = b + 1} {n = m} limit
      (omega arith),
  mul_comm m limit,
)

-- one row: what was seen stands for column d, and 0 for column 0 where there is no column d
module _ {s : Split} {F : ℕ → Bool} {limit b k : ℕ} {before seen : List ℕ} (w : Seen s F b limit before seen k)
    (room : limit ≤ length seen) (blank : (i : ℕ) → get_or before i 0 ≡ 0) (few : k ≤ limit) (d : ℕ) (l : d < limit) where
  row_own : Within s.n s.own (get_or seen d 0)
  row_own = elim (dec_lt d k) [
    | yes h ↦ w.own d h l
    | no h ↦ subst (Within s.n s.own) (sym (w.stay d (omega arith) ∙ blank d)) (within_zero s.n s.own)
  ]

  count : length (take k seen) ≡ k
  count = length-take-le k seen (omega arith)

  row_stands : column_at s F b (get_or seen d 0) ≡ get_or (columns_of s F b) d (column_at s F b 0)
  row_stands = elim (dec_lt d k) [
    | yes h ↦
        sym (ap (column_at s F b) (get_or-take k seen d 0 h))
        ∙ sym (get_d_map_in (column_at s F b) (take k seen) d (column_at s F b 0) (omega (arith, count)))
        ∙ ap (λ (l : List ℕ). get_or l d (column_at s F b 0)) (w.stands few)
    | no h ↦
        ap (column_at s F b) (w.stay d (omega arith) ∙ blank d)
        ∙ sym (get_or-eq_default (columns_of s F b) (column_at s F b 0) (omega (arith, w.few few)))
  ]

-- the rows below b are charted, and what comes after is blank
pub record Charted (s : Split) (F : ℕ → Bool) (limit : ℕ) (before seen : List ℕ) (b : ℕ) : Type 0 where
  pub long : length seen ≡ length before
  pub own : (c d : ℕ) → c < b → d < limit → Within s.n s.own (get_or seen (c * limit + d) 0)
  pub stands : (c d : ℕ) → c < b → d < limit
      → column_at s F c (get_or seen (c * limit + d) 0) ≡ get_or (columns_of s F c) d (column_at s F c 0)
  pub blank : (i : ℕ) → b * limit ≤ i → get_or seen i 0 ≡ 0

pub charting_starts : {s : Split} {F : ℕ → Bool} {limit : ℕ} {before : List ℕ} → ((i : ℕ) → get_or before i 0 ≡ 0)
    → Charted s F limit before before 0
charting_starts blank = record {
  long = refl;
  own = λ c d h. absurd (not-suc-le-zero h);
  stands = λ c d h. absurd (not-suc-le-zero h);
  blank = λ i h. blank i;
}

module _ {s : Split} {F : ℕ → Bool} {limit : ℕ} {before seen : List ℕ} {b : ℕ} (f : Charted s F limit before seen b)
  where
    -- one row more: row b is seen in the part that starts at b * limit
    module _ {k : ℕ} (from : ℕ) (ys : List ℕ) (at : from ≡ b * limit) (room : from + limit ≤ length before)
        (w : Seen s F b limit (mid_of from limit seen) ys k) (few : k ≤ limit) (long : length ys ≡ limit) where
      after : (b + 1) * limit ≡ from + limit
      after = omega (arith, add-mul b 1 limit, one-mul limit)

      inside : from + limit ≤ length seen
      inside = omega (arith, f.long)

      part_length : length (mid_of from limit seen) ≡ limit
      part_length = length-take-le limit (drop from seen) (omega (arith, length-drop from seen))

      blank_row : (i : ℕ) → get_or (mid_of from limit seen) i 0 ≡ 0
      blank_row i = elim (dec_lt i limit) [
        | yes h ↦ get_or-take limit (drop from seen) i 0 h ∙ get_or-drop from seen i 0 ∙ f.blank (from + i) (omega arith)
        | no h ↦ get_or-eq_default (mid_of from limit seen) 0 (omega (arith, part_length))
      ]

      kept : (c d : ℕ) → c < b → d < limit → get_or (put_mid from limit seen ys) (c * limit + d) 0
          ≡ get_or seen (c * limit + d) 0
      kept c d h l =
          placed-before from limit seen ys inside long (c * limit + d)
          (omega (arith, add-mul c 1 limit, one-mul limit, mul-le-mul_right {m = c + 1} {n = b} limit (omega arith)))

      fresh : (c d : ℕ) → c ≡ b → d < limit → get_or (put_mid from limit seen ys) (c * limit + d) 0 ≡ get_or ys d 0
      fresh c d e l =
          ap (λ (m : ℕ). get_or (put_mid from limit seen ys) (m + d) 0) (ap (λ (m : ℕ). m * limit) e ∙ sym at)
          ∙ placed_in from limit seen ys inside long d l

      one_row : Charted s F limit before (put_mid from limit seen ys) (b + 1)
      one_row = record {
        long = same_len_mid from limit seen ys (long ∙ sym part_length) ∙ f.long;
        own = λ c d h l. ⊎_elim (λ g. subst (Within s.n s.own) (sym (kept c d g l)) (f.own c d g l))
            (λ e. subst (Within s.n s.own) (sym (fresh c d e l)) (row_own w (omega arith) blank_row few d l))
            (below_suc {j = c} {n = b} (omega arith));
        stands = λ c d h l. ⊎_elim (λ g. ap (column_at s F c) (kept c d g l) ∙ f.stands c d g l)
            (λ e. ap (column_at s F c) (fresh c d e l)
            ∙ subst (λ (i : ℕ). column_at s F i (get_or ys d 0) ≡ get_or (columns_of s F i) d (column_at s F i 0)) (sym e)
            (row_stands w (omega arith) blank_row few d l))
            (below_suc {j = c} {n = b} (omega arith));
        blank = λ i h. placed-after from limit seen ys inside long i (omega (arith, after))
            ∙ f.blank i (omega (arith, after));
      }

    -- the part's length as the code has it
    pub charting_goes : {k : ℕ} (from m : ℕ) (ys : List ℕ) → from ≡ b * limit → from + limit ≤ length before → m ≡ limit
        → Seen s F b limit (mid_of from m seen) ys k → k ≤ limit → length ys ≡ length (mid_of from m seen)
        → Charted s F limit before (put_mid from m seen ys) (b + 1)
    charting_goes {k} from m ys at room whole =
        subst (λ (m : ℕ). Seen s F b limit (mid_of from m seen) ys k → k ≤ limit → length ys ≡ length (mid_of from m seen)
        → Charted s F limit before (put_mid from m seen ys) (b + 1)) (sym whole)
        (λ w few long. one_row from ys at room w few
        (long ∙ length-take-le limit (drop from seen) (omega (arith, length-drop from seen, f.long))))

    pub charting_ends : b ≡ 2 ^ size s.n (bit s.shared) → limit * 2 ^ size s.n (bit s.shared)
        ≤ length before
        → Chart s F limit seen
    charting_ends e room = record {
      long = omega (arith, f.long);
      own = λ c d h l. f.own c d (omega arith) l;
      stands = λ c d h l. f.stands c d (omega arith) l;
    }
