-- The last cell's bit, read from the table where the chart says. Assumes nothing.
use mathlib.Core.Path.{◌≡◌, sym, ap, ◌∙◌, subst}
use mathlib.Core.Bool.{Bool, true, false, ◌&&◌}
use mathlib.Core.List.{List}
use Prim.Native.Nat.{ℕ, ◌+◌, ◌*◌, ◌/◌, ◌%◌, ◌^◌, ◌<◌, ◌≤◌}
use native.Mathlib.Nat.{div-lt_iff_lt-mul, div-add-mod', mul-le-mul_right}
use native.Mathlib.Omega.{arith}
use lib.Dec.{ltb}
use lib.Pow.{pow_pos}
use lib.ListN.{length, get_or}
use borrow.Author.Tests.{lt-ltb, le-ltb}
use Rattle.bits.specs.Numbers.{bit}
use Rattle.bits.specs.Sets.{rest, Apart, size, gather, spread}
use Rattle.bits.proofs.Masks.{mask_size, mask_spread}
use Rattle.bits.proofs.Numbers.{bit-number}
use Rattle.bits.proofs.Spreading.{gather-lt, gather-zero}
use Rattle.bits.proofs.Sums.{spread-two}
use Rattle.columns.specs.declared.split.Split.{Split}
use Rattle.splits.specs.Split.{reads_h}
use Rattle.splits.specs.Columns.{assign, column, columns}
use Rattle.splits.specs.Pair.{bit_h}
use Rattle.columns.specs.Reading.{Held, Within, last_reads, shared_part, column_of, column_at, columns_of, Chart}
use Rattle.splits.proofs.Parts.{assign-spread, assign-lt, rest-apart}
use Rattle.columns.proofs.Reading.{beside_mask}
use Rattle.charts.proofs.Charts.{row_room}

-- x has the low bits of i at shared and free inputs, z bits at own inputs alone: x + z is an assignment
module _ (n : ℕ) (F : ℕ → Bool) (A B : ℕ → Bool) (apart : Apart n A B) (i x z : ℕ)
    (at : x ≡ spread n (reads_h A B) (i % 2 ^ size n (reads_h A B))) (own : z ≡ spread n A (gather n A z)) where
  abbrev b : ℕ
  b = gather n B x

  abbrev c : ℕ
  c = gather n (rest A B) x

  two : x ≡ spread n B b + spread n (rest A B) c
  two =
      subst (λ (y : ℕ). y ≡ spread n B (gather n B y) + spread n (rest A B) (gather n (rest A B) y)) (sym at)
      (spread-two n B (rest A B) (rest-apart n A B) (i % 2 ^ size n (reads_h A B)))

  whole : x + z ≡ assign n A B (gather n A z) b c
  whole = omega (arith, two, own, assign-spread n A B apart (gather n A z) b c)

  whole_lt : x + z < 2 ^ n
  whole_lt = omega (arith, whole, assign-lt n A B (gather n A z) b c)

  -- where z stands for the column that i's high bits name, F gives H's bit there
  whole_bit : column n F A B b (gather n A z) ≡ get_or (columns n F A B b) (i / 2 ^ size n (reads_h A B))
      (column n F A B b 0)
      → F (x + z) ≡ bit_h n F A B i
  unfolding bit_h column
  whole_bit stands =
      ap F whole ∙ sym (bit-number (2 ^ size n (rest A B)) (λ c. F (assign n A B (gather n A z) b c)) c
      (gather-lt n (rest A B) x))
      ∙ ap (λ (m : ℕ). bit m c) stands
      ∙ ap (λ (y : ℕ).
      bit (get_or (columns n F A B (gather n B y)) (i / 2 ^ size n (reads_h A B)) (column n F A B (gather n B y) 0))
      (gather n (rest A B) y)) at

-- the same in the numbers that the code has: `many` assignments of shared and free inputs, row b of the chart
module _ {s : Split} (h : Held s) {F : ℕ → Bool} {limit : ℕ} {seen : List ℕ} (chart : Chart s F limit seen) (i : ℕ)
    {many : ℕ}
    (all : many ≡ 2 ^ size s.n (bit (s.shared + s.free))) where
  abbrev bits : ℕ → Bool
  bits = bit_h s.n F (bit s.own) (bit s.shared)

  many_is : many ≡ 2 ^ size s.n (last_reads s)
  many_is = all ∙ ap (λ (k : ℕ). 2 ^ k) (mask_size s.n (last_reads s) (s.shared + s.free) (beside_mask s h))

  -- the code's test for a spare bit
  tested : (t : Bool) → ltb i (limit * many) ≡ t → (t && bits i)
      ≡ (ltb i (limit * 2 ^ size s.n (last_reads s)) && bits i)
  tested t e = ap (λ (u : Bool). u && bits i) (sym e ∙ ap (λ (m : ℕ). ltb i (limit * m)) many_is)

  pub last_spare : limit ≤ i / many → false ≡ (ltb i (limit * 2 ^ size s.n (last_reads s)) && bits i)
  last_spare l = tested false (le-ltb i (limit * many)
      (omega (arith, mul-le-mul_right {m = limit} {n = i / many} many l, div-add-mod' i many)))

  module _ {x b : ℕ} (l : i / many < limit) (made : x ≡ spread s.n (bit (s.shared + s.free)) (i % many))
      (row : b ≡ shared_part s x) where
    abbrev z : ℕ
    z = get_or seen (b * limit + i / many) 0

    within : i / 2 ^ size s.n (last_reads s) < limit
    within = subst (λ (k : ℕ). i / k < limit) many_is l

    at : x ≡ spread s.n (last_reads s) (i % 2 ^ size s.n (last_reads s))
    at = made ∙ mask_spread s.n (last_reads s) (s.shared + s.free) (beside_mask s h) (i % many)
        ∙ ap (λ (k : ℕ). spread s.n (last_reads s) (i % k)) many_is

    z_is : z ≡ get_or seen (shared_part s x * limit + i / 2 ^ size s.n (last_reads s)) 0
    z_is = cc many_is

    own : Within s.n s.own z
    own = subst (Within s.n s.own) (sym z_is)
        (chart.own (shared_part s x) _ (gather-lt s.n (bit s.shared) x) within)

    pub last_room : b * limit + i / many < length seen
    last_room =
        let small : b < 2 ^ size s.n (bit s.shared) = omega (arith, row, gather-lt s.n (bit s.shared) x) in
        omega (arith, row_room limit (2 ^ size s.n (bit s.shared)) (length seen) b small chart.long)

    pub last_lt : x + z < 2 ^ s.n
    last_lt = whole_lt s.n F (bit s.own) (bit s.shared) h.apart i x z at own

    pub last_bit : F (x + z) ≡ (ltb i (limit * 2 ^ size s.n (last_reads s)) && bits i)
    last_bit =
        whole_bit s.n F (bit s.own) (bit s.shared) h.apart i x z at own
        (ap (column_at s F (shared_part s x)) z_is ∙ chart.stands (shared_part s x) _
        (gather-lt s.n (bit s.shared) x) within
        ∙ ap (λ (a : ℕ). get_or (columns_of s F (shared_part s x)) (i / 2 ^ size s.n (last_reads s))
        (column_of s F (shared_part s x) a)) (gather-zero s.n (bit s.own)))
        ∙ tested true (lt-ltb i (limit * many) ((div-lt_iff_lt-mul
        (omega (arith, all, pow_pos (size s.n (bit (s.shared + s.free)))))).0 l))
