-- A record's cell of one or two signals, by its bytes; the cells of a sheet in turn. Assumes nothing.
use mathlib.Core.Path.{◌≡◌, refl, sym, ap, ap₂, ◌∙◌, subst}
use mathlib.Core.Bool.{Bool, true, false, ◌&&◌, ◌||◌}
use mathlib.Core.List.{List, [], ◌∷◌}
use Prim.Native.Nat.{ℕ, zero, suc, ◌+◌, ◌-◌, ◌/◌, ◌%◌, ◌^◌, ◌<◌, ◌≤◌}
use native.Mathlib.Omega.{arith}
use lib.Dec.{eqb, ltb}
use lib.ListN.{length, get_or}
use lib.Pow.{pow_pos}
use borrow.Author.Tests.{ne_eqb}
use Rattle.bits.specs.Numbers.{bit, val, number}
use Rattle.bits.specs.Lists.{list_of}
use Rattle.bits.proofs.Numbers.{number_ext, number-mod, number_lt}
use Rattle.bits.proofs.Lists.{length-list}
use Rattle.sheets.specs.declared.kinds.Edition.{Edition}
use Rattle.sheets.specs.Edition.{IsEdition}
use Rattle.sheets.specs.Network.{Cell}
use Rattle.sheets.specs.Record.{cell_bit, cell_of}
use Rattle.sheets.specs.Sheet.{record_at, cells_from, sheet_cells}
use Rattle.sheets.specs.Reading.{times}
use Rattle.printing.specs.Forms.{mark_of}
use Rattle.printing.specs.Printable.{Plain, AllPlain, plain_cell, all_plain}

module _ (e : Edition) (b : ℕ → ℕ) where
  pub signals_length : length (cell_of e b).signals ≡ b 0
  unfolding cell_of
  signals_length = length-list (b 0) (λ j. b (j + 1))

  pub table-lt : (cell_of e b).table < 2 ^ (2 ^ length (cell_of e b).signals)
  unfolding cell_of
  table-lt = subst (λ (k : ℕ). number (2 ^ b 0) (cell_bit e b) < 2 ^ (2 ^ k)) (sym signals_length)
      (number_lt (2 ^ b 0) (cell_bit e b))

  -- a table of one or two signals lies in its first byte
  table_in_lem : (k : ℕ) → b 0 ≡ k → k ≤ 2 → (cell_of e b).table ≡ b e.start % 2 ^ (2 ^ k)
  unfolding cell_of
  table_in_lem k q h =
      ap (λ (j : ℕ). number (2 ^ j) (cell_bit e b)) q
      ∙ number_ext (2 ^ k) (cell_bit e b) (bit (b e.start)) (λ x l. first x (small k h x l))
      ∙ number-mod (2 ^ k) (b e.start)
    where
      small : (k : ℕ) → k ≤ 2 → (x : ℕ) → x < 2 ^ k → x < 8
      small zero h x l = omega arith
      small (suc zero) h x l = omega arith
      small (suc (suc zero)) h x l = omega arith
      small (suc (suc (suc k))) h x l = absurd (omega arith)

      first : (x : ℕ) → x < 8 → cell_bit e b x ≡ bit (b e.start) x
      first x l =
          let q : e.start + x / 8 ≡ e.start = omega arith in
          let r : x % 8 ≡ x = omega arith in
          ap₂ (λ (i j : ℕ). bit (b i) j) q r

  signals_in : (k : ℕ) → b 0 ≡ k → (cell_of e b).signals ≡ list_of k (λ j. b (j + 1))
  unfolding cell_of
  signals_in k q = ap (λ (i : ℕ). list_of i (λ j. b (j + 1))) q

  first_one : list_of 1 (λ j. b (j + 1)) ≡ b 1 ∷ []
  unfolding list_of
  first_one = refl

  first_two : list_of 2 (λ j. b (j + 1)) ≡ b 1 ∷ b 2 ∷ []
  unfolding list_of
  first_two = refl

  made_of : {l : List ℕ} {t : ℕ} → (cell_of e b).signals ≡ l → (cell_of e b).table ≡ t → cell_of e b
      ≡ record { signals = l; table = t }
  made_of p q = ap₂ (λ (l : List ℕ) (t : ℕ). record { signals = l; table = t }) p q

  pub one_cell : b 0 ≡ 1 → cell_of e b ≡ record { signals = b 1 ∷ []; table = b e.start % 4 }
  one_cell q = made_of (signals_in 1 q ∙ first_one) (table_in_lem 1 q (omega arith))

  pub two-cell : b 0 ≡ 2 → cell_of e b ≡ record { signals = b 1 ∷ b 2 ∷ []; table = b e.start % 16 }
  two-cell q = made_of (signals_in 2 q ∙ first_two) (table_in_lem 2 q (omega arith))

  -- ---- whether it is plain

  pub plain-one : b 0 ≡ 1 → true ≡ plain_cell (cell_of e b)
  plain-one q = sym (ap plain_cell (one_cell q))

  pub plain-two : b 0 ≡ 2 → ltb 0 (mark_of (b e.start % 16)) ≡ plain_cell (cell_of e b)
  plain-two q = sym (ap plain_cell (two-cell q))

  pub plain_other : (b 0 ≡ 1 → ⊥) → (b 0 ≡ 2 → ⊥) → false ≡ plain_cell (cell_of e b)
  plain_other p q =
      sym (ap (λ (k : ℕ). eqb k 1 || (eqb k 2 && ltb 0 (mark_of (cell_of e b).table))) signals_length
      ∙ ap₂ (λ (s t : Bool). s || (t && ltb 0 (mark_of (cell_of e b).table))) (ne_eqb (b 0) 1 p) (ne_eqb (b 0) 2 q))

  pub is_two : Plain (cell_of e b) → (b 0 ≡ 1 → ⊥) → b 0 ≡ 2
  is_two p q = omega (arith, p.some, p.few, signals_length)

-- ---- the records of a sheet in turn

module _ (e : Edition) (s : List ℕ) where
  pub cells_next : (i m : ℕ) → i < m → cells_from e s i (m - i)
      ≡ cell_of e (record_at e s i) ∷ cells_from e s (i + 1) (m - (i + 1))
  unfolding cells_from
  cells_next i m h =
      let p : m - i ≡ suc (m - (i + 1)) = omega arith in
      let q : suc i ≡ i + 1 = omega arith in
      ap (cells_from e s i) p ∙ ap (λ (j : ℕ). cell_of e (record_at e s i) ∷ cells_from e s j (m - (i + 1))) q

  pub cells_end : (i m : ℕ) → m ≤ i → cells_from e s i (m - i) ≡ []
  unfolding cells_from
  cells_end i m h = let p : m - i ≡ 0 = omega arith in ap (cells_from e s i) p

  pub cells_all : (m : ℕ) → cells_from e s 0 (m - 0) ≡ sheet_cells e s m
  cells_all m = let p : m - 0 ≡ m = omega arith in ap (cells_from e s 0) p

  pub plain_at : (m i : ℕ) → AllPlain (cells_from e s i m) → (j : ℕ) → j < m → Plain (cell_of e (record_at e s (i + j)))
  unfolding cells_from
  plain_at zero i p j h = absurd (omega arith)
  plain_at (suc m) i p zero h = let q : i ≡ i + 0 = omega arith
      in subst (λ (k : ℕ). Plain (cell_of e (record_at e s k))) q p.0
  plain_at (suc m) i p (suc j) h =
      let q : suc i + j ≡ i + suc j = omega arith in
      subst (λ (k : ℕ). Plain (cell_of e (record_at e s k))) q (plain_at m (suc i) p.1 j (omega arith))

  pub cell_at_lem : (m i j : ℕ) (d : Cell) → j < m → get_or (cells_from e s i m) j d ≡ cell_of e (record_at e s (i + j))
  unfolding cells_from
  cell_at_lem zero i j d h = absurd (omega arith)
  cell_at_lem (suc m) i zero d h = let q : i ≡ i + 0 = omega arith in ap (λ (k : ℕ). cell_of e (record_at e s k)) q
  cell_at_lem (suc m) i (suc j) d h =
      let q : suc i + j ≡ i + suc j = omega arith in
      cell_at_lem m (suc i) j d (omega arith) ∙ ap (λ (k : ℕ). cell_of e (record_at e s k)) q

  pub plain_record : (m : ℕ) → AllPlain (sheet_cells e s m) → (i : ℕ) → i < m → Plain (cell_of e (record_at e s i))
  plain_record m p i h = let q : 0 + i ≡ i = omega arith
      in subst (λ (k : ℕ). Plain (cell_of e (record_at e s k))) q (plain_at m 0 p i h)

  -- ---- whether all are plain, from record i on

  module _ (i m : ℕ) (X : Bool) (so : all_plain (cells_from e s i (m - i)) ≡ X) where
    pub plain_stops : i < m → plain_cell (cell_of e (record_at e s i)) ≡ false → false ≡ X
    plain_stops h q = sym (ap (λ (t : Bool). t && all_plain (cells_from e s (i + 1) (m - (i + 1)))) q)
        ∙ sym (ap all_plain (cells_next i m h)) ∙ so

    pub plain_goes : i < m → plain_cell (cell_of e (record_at e s i)) ≡ true
        → all_plain (cells_from e s (i + 1) (m - (i + 1))) ≡ X
    plain_goes h q = sym (ap (λ (t : Bool). t && all_plain (cells_from e s (i + 1) (m - (i + 1)))) q)
        ∙ sym (ap all_plain (cells_next i m h)) ∙ so

    pub plain_ends : m ≤ i → true ≡ X
    plain_ends h = sym (ap all_plain (cells_end i m h)) ∙ so

-- ---- a pair

pub start_within : {e : Edition} (r : List ℕ) → IsEdition e → length r ≡ e.size → e.start < length r
start_within {e} r o h = omega (arith, o.ends, pow_pos (e.most - 3), h)

pub times-two : (x low high : ℕ) {a b : ℕ} → a ≡ val (eqb x low) → b ≡ val (eqb x high) → a + b
    ≡ times x (low ∷ high ∷ [])
times-two x low high f g = omega (arith, f, g)

pub times-one : (x low : ℕ) {a : ℕ} → a ≡ val (eqb x low) → a ≡ times x (low ∷ [])
times-one x low f = omega (arith, f)
