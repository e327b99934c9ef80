-- Laws on tables that the claims need: bytes are the table of their bits, a table's spare bits are zero, and the tables
-- of a split as they are handed back give the table. Assumes nothing.
use mathlib.Core.Path.{◌≡◌, refl, sym, ap, ap₂, ◌∙◌, subst}
use mathlib.Core.Bool.{Bool, true, false, not, cond, ◌&&◌, ◌||◌}
use mathlib.Core.List.{List, ◌++◌}
use Prim.Native.Nat.{ℕ, zero, suc, ◌+◌, ◌-◌, ◌*◌, ◌/◌, ◌%◌, ◌^◌, ◌≤◌, ◌<◌}
use native.Mathlib.Nat.{suc-mul, mul_comm, mul-le-mul_right}
use native.Mathlib.Decide.{dec_lt}
use native.Mathlib.Omega.{arith}
use lib.Dec.{ltb, lit<}
use lib.Pow.{pow-add, pow_mono}
use lib.ListN.{length, get_or, get_or-replicate, get_or-append}
use lib.Seq.{ext_get_or}
use borrow.Author.Tests.{lt-ltb, le-ltb, not-true}
use Rattle.bits.specs.Numbers.{bit, number}
use Rattle.bits.specs.Sets.{size, gather}
use Rattle.bits.proofs.Numbers.{bit-number, number_ext, number_bit, bit-zero, none-zero}
use Rattle.bits.proofs.Spreading.{gather-lt}
use Rattle.bits.proofs.Below.{every_at}
use Rattle.bits.proofs.Lists.{list_at}
use Rattle.tables.specs.Table.{table_length, table_bit, spare_clear, table_of, bytes_of}
use Rattle.tables.specs.Words.{gate_word}
use Rattle.tables.specs.Cells.{cell_words, joined, table_number, no_table}
use Rattle.tables.proofs.Digits.{short_word, past_words}
use Rattle.tables.proofs.Bytes.{table_bytes, byte_at, length_bytes, length-holds, length-table, table-of}
use Rattle.splits.specs.Split.{reads_d, reads_h, input_h}
use Rattle.splits.specs.Columns.{most_first, few_columns}
use Rattle.splits.specs.Pair.{code_at, table_d, bit_h, inputs_h, bytes_h}
use Rattle.charts.specs.Cells.{bit_d, held_d, first_table, first_cells, table_in}
use Rattle.splits.proofs.Few.{code_at_gather, column_there, pair_gives}
use Rattle.charts.proofs.Codes.{few_at}
use Rattle.charts.proofs.HeldCells.{table-D}
use Rattle.sheets.specs.Edition.{largest_cell, first_most}
use Rattle.claims.specs.Words.{AllBytes}

-- ---- a table of the right length, its spare bits clear, is the table of its bits

pub table_back : (n : ℕ) (F : ℕ → Bool) (t : List ℕ) → AllBytes t → length t ≡ table_length n → spare_clear n t ≡ true
    → ((x : ℕ) → x < 2 ^ n → F x ≡ table_bit t x) → table_of n F ≡ t
unfolding table_of spare_clear
table_back n F t bytes long spare is =
    ext_get_or 0 (table_of n F) t (length_bytes (table_length n) f ∙ sym long)
    (λ i h. at i (subst (λ (k : ℕ). i < k) (length_bytes (table_length n) f) h))
  where
    f : ℕ → Bool
    f x = ltb x (2 ^ n) && F x

    small : (x : ℕ) → x < 8 * table_length n → 2 ^ n ≤ x → x < 8
    small x h l = elim (dec_lt n 3) [
      | yes g ↦ let e : n - 3 ≡ 0 = omega arith in omega (arith, ap (λ (m : ℕ). 2 ^ m) e)
      | no g ↦ let e : n ≡ 3 + (n - 3) = omega arith
          in absurd (omega (arith, ap (λ (m : ℕ). 2 ^ m) e ∙ pow-add 2 3 (n - 3)))
    ]

    clear : (x : ℕ) → x < 8 → 2 ^ n ≤ x → table_bit t x ≡ false
    clear x h l =
        not-true (table_bit t x) (sym (ap (λ (s : Bool). s || not (table_bit t x)) (le-ltb x (2 ^ n) l))
        ∙ every_at 8 (λ y. ltb y (2 ^ n) || not (table_bit t y)) spare x h)

    same : (x : ℕ) → x < 8 * table_length n → f x ≡ table_bit t x
    same x h = elim (dec_lt x (2 ^ n)) [
      | yes l ↦ ap (λ (s : Bool). s && F x) (lt-ltb x (2 ^ n) l) ∙ is x l
      | no l ↦ let g : 2 ^ n ≤ x = omega arith in ap (λ (s : Bool). s && F x) (le-ltb x (2 ^ n) g)
          ∙ sym (clear x (small x h g) g)
    ]

    at : (i : ℕ) → i < table_length n → get_or (bytes_of (table_length n) f) i 0 ≡ get_or t i 0
    at i h =
        byte_at (table_length n) f i h
        ∙ number_ext 8 (λ j. f (i * 8 + j)) (bit (get_or t i 0)) (λ j l.
        let q : (i * 8 + j) / 8 ≡ i = omega arith in
        let r : (i * 8 + j) % 8 ≡ j = omega arith in
        same (i * 8 + j) (omega arith) ∙ ap₂ (λ (a b : ℕ). bit (get_or t a 0) b) q r)
        ∙ number_bit 8 (get_or t i 0) (bytes i (subst (λ (k : ℕ). i < k) (sym long) h))

-- a table is written with its spare bits zero
pub spare_zero : (n : ℕ) (f : ℕ → Bool) (x : ℕ) → 2 ^ n ≤ x → x < 8 * table_length n → table_bit (table_of n f) x ≡ false
unfolding table_of
spare_zero n f x h l =
    table_bytes (table_length n) (λ y. ltb y (2 ^ n) && f y) x (omega arith)
    ∙ ap (λ (b : Bool). b && f x) (le-ltb x (2 ^ n) h)

-- ---- the tables of a possible split, as try returns them: H in the first bytes of a room, the first cells' as numbers

-- no bit set is the number 0
no_table_lem : table_number no_table ≡ 0
unfolding joined
no_table_lem =
    number_ext (64 * cell_words) (λ x. bit (get_or no_table.words (x / 64) 0) (x % 64)) (λ x. false) (λ x h.
    ap (λ (w : ℕ). bit w (x % 64)) (get_or-replicate cell_words (x / 64) 0 0 (omega arith)) ∙ bit-zero (x % 64))
    ∙ none-zero (64 * cell_words)

-- first cell t, of r, where the first cells have at most so many inputs as the largest cell of any edition
module _ (n : ℕ) (F : ℕ → Bool) (A B : ℕ → Bool) (r : ℕ) (small : size n (reads_d A B) ≤ largest_cell) where
  -- its table as a number
  first-number : (t : ℕ) → table_number (first_table n F A B r t) ≡ cond (ltb t r) (table_d n F A B t) 0
  first-number t = go (ltb t r)
    where
      go : (b : Bool) → table_number (cond b (held_d n F A B t) no_table) ≡ cond b (table_d n F A B t) 0
      go true = table-D n F A B t small
      go false = no_table_lem

  -- among those handed back
  pub table_in_lem : r ≤ most_first → (t : ℕ) → table_in (first_cells n F A B r) t ≡ cond (ltb t r) (table_d n F A B t) 0
  table_in_lem most zero = first-number zero
  table_in_lem most (suc zero) = first-number (suc zero)
  table_in_lem most (suc (suc zero)) = first-number (suc (suc zero))
  table_in_lem most (suc (suc (suc t))) = sym (ap (λ (b : Bool). cond b (table_d n F A B (suc (suc (suc t)))) 0)
      (le-ltb (suc (suc (suc t))) r (omega arith)))

-- in a cell of up to 6 inputs the first word is all of it, and the others are 0
module _ (n : ℕ) (F : ℕ → Bool) (A B : ℕ → Bool) (r t : ℕ) (small : size n (reads_d A B) ≤ first_most) where
  abbrev k : ℕ
  k = size n (reads_d A B)

  pub table-word : get_or (first_table n F A B r t).words 0 0 ≡ cond (ltb t r) (table_d n F A B t) 0
  unfolding table_d
  table-word = go (ltb t r)
    where
      go : (b : Bool) → get_or (cond b (held_d n F A B t) no_table).words 0 0 ≡ cond b (number (2 ^ k) (bit_d n F A B t)) 0
      go true = list_at cell_words (gate_word k (bit_d n F A B t)) 0 0 (lit< tt)
          ∙ sym (short_word k (bit_d n F A B t) small)
      go false = refl

  pub table-rest : (i : ℕ) → 1 ≤ i → i < cell_words → get_or (first_table n F A B r t).words i 0 ≡ 0
  table-rest i p l = go (ltb t r)
    where
      go : (b : Bool) → get_or (cond b (held_d n F A B t) no_table).words i 0 ≡ 0
      go true =
          list_at cell_words (gate_word k (bit_d n F A B t)) i 0 l
          ∙ past_words k i (bit_d n F A B t) (omega (arith, pow_mono {i = k - 6} {j = 0} (omega arith)))
      go false = get_or-replicate cell_words i 0 0 l

module _ (n : ℕ) (F : ℕ → Bool) (A B : ℕ → Bool) (r : ℕ) (small : size n (reads_d A B) ≤ largest_cell)
    (most : r ≤ most_first) (few : few_columns n F A B (2 ^ r) ≡ true) (rest : List ℕ) (x : ℕ) (below : x < 2 ^ n) where
  -- what the first cells give
  outputs : ℕ
  outputs = number r (λ t. bit (table_in (first_cells n F A B r) t) (gather n (reads_d A B) x))

  code_lt : code_at n F A B (gather n (reads_d A B) x) < 2 ^ r
  code_lt =
      omega (
        arith,
        code_at_gather n F A B x,
        column_there n F A B (gather n B x) (gather n A x) (gather-lt n A x),
        few_at n F A B (2 ^ r) few (gather n B x) (gather-lt n B x),
      )

  -- is the code
  is_code : outputs ≡ code_at n F A B (gather n (reads_d A B) x)
  unfolding outputs table_d
  is_code =
      number_ext r (λ t. bit (table_in (first_cells n F A B r) t) (gather n (reads_d A B) x))
      (bit (code_at n F A B (gather n (reads_d A B) x))) (λ t l.
      ap (λ (d : ℕ). bit d (gather n (reads_d A B) x))
      (table_in_lem n F A B r small most t ∙ ap (λ (b : Bool). cond b (table_d n F A B t) 0) (lt-ltb t r l))
      ∙ bit-number (2 ^ size n (reads_d A B)) (λ u. bit (code_at n F A B u) t) (gather n (reads_d A B) x)
      (gather-lt n (reads_d A B) x))
      ∙ number_bit r (code_at n F A B (gather n (reads_d A B) x)) code_lt

  at : ℕ
  at = input_h n A B x outputs

  at_lt : at < 2 ^ inputs_h n F A B r
  unfolding at
  at_lt =
      let k = size n (reads_h A B) in
      let l : outputs < 2 ^ r = omega (arith, is_code, code_lt) in
      omega (
        arith,
        gather-lt n (reads_h A B) x,
        mul-le-mul_right (2 ^ k) l,
        suc-mul outputs (2 ^ k),
        pow-add 2 k r,
        mul_comm (2 ^ k) (2 ^ r),
      )

  pub pair_works : F x ≡ table_bit (bytes_h n F A B r ++ rest)
      (input_h n A B x (number r (λ t. bit (table_in (first_cells n F A B r) t) (gather n (reads_d A B) x))))
  unfolding bytes_h at outputs
  pair_works =
      pair_gives n F A B x below
      ∙ ap (λ (c : ℕ). bit_h n F A B (input_h n A B x c)) (sym is_code)
      ∙ sym (table-of (inputs_h n F A B r) (bit_h n F A B) at at_lt)
      ∙ ap (λ (b : ℕ). bit b (at % 8)) (sym (get_or-append (bytes_h n F A B r) rest 0 (at / 8)
      (omega (arith, at_lt, length-table (inputs_h n F A B r) (bit_h n F A B), length-holds (inputs_h n F A B r)))))
