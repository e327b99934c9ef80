-- The last cell's table by words, where nothing is shared and the free inputs make whole words: the words of a column
-- are those of the table over the free inputs, the own ones as the chart has them. Assumes nothing.
use mathlib.Core.Path.{◌≡◌, sym, ap, ap₂, ◌∙◌, subst}
use mathlib.Core.Bool.{Bool, false, ◌&&◌}
use mathlib.Core.List.{List}
use Prim.Native.Nat.{ℕ, ◌+◌, ◌-◌, ◌*◌, ◌/◌, ◌%◌, ◌^◌, ◌<◌, ◌≤◌}
use native.Mathlib.Nat.{zero-add, mul_comm, mul_assoc, add_comm, mod-lt, mul-le-mul_right, div-add-mod'}
use native.Mathlib.Decide.{dec_lt}
use native.Mathlib.Omega.{arith}
use lib.Arith.{digits_div, digits_mod}
use lib.Dec.{ltb}
use lib.ListN.{length, get_or}
use lib.Pow.{pow-add, pow_mono, pow_pos}
use Rattle.bits.specs.Numbers.{bit, number}
use Rattle.bits.specs.Sets.{Apart, size, spread}
use Rattle.bits.proofs.Counting.{size_none}
use Rattle.bits.proofs.Masks.{mask_size}
use Rattle.bits.proofs.Numbers.{number_ext, bit-zero}
use Rattle.bits.proofs.Sizes.{size_ext}
use Rattle.bits.proofs.Spreading.{gather-lt}
use Rattle.tables.specs.Words.{gate_word}
use Rattle.tables.proofs.Digits.{past_words}
use Rattle.columns.specs.declared.split.Split.{Split}
use Rattle.splits.specs.Pair.{bit_h}
use Rattle.columns.specs.Reading.{Held, Without, Within, last_reads, shared_part, Chart}
use Rattle.charts.proofs.Last.{last_bit}
use Rattle.columns.proofs.Reading.{beside_mask, start, within_zero}

module _ {s : Split} (h : Held s) {F : ℕ → Bool} {limit : ℕ} {seen : List ℕ} (chart : Chart s F limit seen)
    (none : s.shared ≡ 0)
    (big : 64 ≤ 2 ^ size s.n (bit s.free)) (i : ℕ) {many : ℕ} (all : many ≡ 2 ^ size s.n (bit s.free)) where
  abbrev k : ℕ
  k = size s.n (bit s.free)

  -- the words of a column
  abbrev each : ℕ
  each = many / 64

  beside : s.free ≡ s.shared + s.free
  beside = omega arith

  six : 6 ≤ k
  six = elim (dec_lt k 6) [ yes l ↦ absurd (omega (arith, pow_mono {i = k} {j = 5} (omega arith))) | no l ↦ omega arith ]

  each_is : each ≡ 2 ^ (k - 6)
  each_is = let e : 6 + (k - 6) ≡ k = omega (arith, six)
      in omega (arith, all, ap (λ (m : ℕ). 2 ^ m) e, pow-add 2 6 (k - 6))

  whole : many ≡ 64 * each
  whole = let e : 6 + (k - 6) ≡ k = omega (arith, six)
      in omega (arith, all, each_is, ap (λ (m : ℕ). 2 ^ m) e, pow-add 2 6 (k - 6))

  pub each_some : 0 < each
  each_some = omega (arith, each_is, pow_pos (k - 6))

  -- H has 2 ^ (k + r) bits
  last_size : size s.n (last_reads s) ≡ k
  last_size = sym (mask_size s.n (last_reads s) (s.shared + s.free) (beside_mask s h))
      ∙ ap (λ (m : ℕ). size s.n (bit m)) (sym beside)

  pub word_past : limit ≤ i / each → (r : ℕ) → limit ≡ 2 ^ r → 0
      ≡ gate_word (size s.n (last_reads s) + r) (bit_h s.n F (bit s.own) (bit s.shared)) i
  word_past l r e =
      let m : size s.n (last_reads s) + r - 6 ≡ k - 6 + r = omega (arith, last_size, six) in
      let two : 2 ^ (size s.n (last_reads s) + r - 6) ≡ each * limit = ap (λ (j : ℕ). 2 ^ j) m ∙ pow-add 2 (k - 6) r
      ∙ ap₂ ◌*◌ (sym each_is) (sym e) in
      sym (past_words (size s.n (last_reads s) + r) i (bit_h s.n F (bit s.own) (bit s.shared))
      (omega (
        arith,
        two,
        mul_comm each limit,
        mul-le-mul_right {m = limit} {n = i / each} each l,
        div-add-mod' i
            each,
      )))

  module _ (l : i / each < limit) where
    abbrev z : ℕ
    z = get_or seen (i / each) 0

    no_shared : size s.n (bit s.shared) ≡ 0
    no_shared = size_ext s.n (bit s.shared) (λ j. false) (λ j g. ap (λ (m : ℕ). bit m j) none ∙ bit-zero j)
        ∙ size_none s.n

    one_row : 0 < 2 ^ size s.n (bit s.shared)
    one_row = pow_pos (size s.n (bit s.shared))

    first_row : 0 * limit + i / each ≡ i / each
    first_row = omega arith

    own : Within s.n s.own z
    own = subst (λ (p : ℕ). Within s.n s.own (get_or seen p 0)) first_row (chart.own 0 (i / each) one_row l)

    without : Without s.n s.free z
    without = subst (Without s.n s.free) (zero-add z) (start s h F 0 (within_zero s.n s.shared) z own)

    pub column_room : i / each < length seen
    column_room = omega (arith, chart.long, ap (λ (m : ℕ). limit * 2 ^ m) no_shared)

    pub column_lt : z < 2 ^ s.n
    column_lt = without.below

    pub column_apart : Apart s.n (bit z) (bit s.free)
    column_apart = without.clear

    -- place j of the word
    module _ (j : ℕ) (small : j < 64) where
      abbrev p : ℕ
      p = 64 * i + j

      digits : p ≡ i / each * many + (64 * (i % each) + j)
      digits = omega (
        arith,
        div-add-mod' i each,
        whole,
        ap (λ (m : ℕ). i / each * m) whole,
        mul_comm (i / each)
            (64 * each),
        mul_assoc 64 each (i / each),
        mul_comm each (i / each),
      )

      under : 64 * (i % each) + j < many
      under = omega (arith, whole, mod-lt i each_some)

      row : p / many ≡ i / each
      row = ap (λ (m : ℕ). m / many) digits ∙ digits_div (i / each) under

      place : p % many ≡ 64 * (i % each) + j
      place = ap (λ (m : ℕ). m % many) digits ∙ digits_mod (i / each) under

      abbrev x : ℕ
      x = spread s.n (bit s.free) (64 * (i % each) + j)

      alone : 0 ≡ shared_part s x
      alone = omega (arith, gather-lt s.n (bit s.shared) x, ap (λ (m : ℕ). 2 ^ m) no_shared)

      read : F (z + x) ≡ (ltb p (limit * 2 ^ size s.n (last_reads s))
          && bit_h s.n F (bit s.own) (bit s.shared) p)
      read =
          let swap : z + x ≡ x + get_or seen (0 * limit + p / many) 0 =
          add_comm z x ∙ ap (λ (m : ℕ). x + get_or seen m 0) (sym first_row ∙ ap (λ (m : ℕ). 0 * limit + m) (sym row)) in
          ap F swap ∙ last_bit h chart p (all ∙ ap (λ (m : ℕ). 2 ^ size s.n (bit m)) beside)
          (subst (λ (m : ℕ). m < limit) (sym row) l)
          (ap₂ (λ (m v : ℕ). spread s.n (bit m) v) beside (sym place)) alone

    pub column_word : (r : ℕ) → limit ≡ 2 ^ r → number 64
        (λ j. F (z + spread s.n (bit s.free) (64 * (i % each) + j)))
        ≡ gate_word (size s.n (last_reads s) + r) (bit_h s.n F (bit s.own) (bit s.shared)) i
    column_word r e =
        let m = size s.n (last_reads s) in
        let end : limit * 2 ^ m ≡ 2 ^ (m + r) = ap (λ (y : ℕ). y * 2 ^ m) e ∙ mul_comm (2 ^ r) (2 ^ m)
        ∙ sym (pow-add 2 m r) in
        number_ext 64 _ _ (λ j g. read j g ∙ ap (λ (y : ℕ). ltb (64 * i + j) y
        && bit_h s.n F (bit s.own) (bit s.shared) (64 * i + j)) end)
