-- The tests tell the printed sheets; their text has room, reads back, and is worth what the sheet is. Assumes nothing.
use mathlib.Core.Path.{◌≡◌, refl, sym, ap, ap₂, ◌∙◌, subst}
use mathlib.Core.Logic.{◌↔◌}
use mathlib.Core.Bool.{Bool, true, false, not, ◌&&◌, ◌||◌}
use mathlib.Core.List.{List, ◌++◌}
use Prim.Native.Nat.{ℕ, zero, suc, ◌+◌, ◌-◌, ◌^◌, ◌<◌, ◌≤◌}
use native.Mathlib.Omega.{arith}
use lib.Dec.{eqb, ltb}
use lib.ListN.{length, drop}
use lib.Seq.{sets-eq}
use borrow.Author.Tests.{eq-eqb, eqb-true, eqb-false, ltb-true, ltb-false, lt-ltb, not-false}
use Rattle.bits.proofs.Below.{every_at, every_all}
use Rattle.bits.proofs.Bools.{and_left, and_right}
use Rattle.tables.specs.Table.{most_inputs}
use Rattle.sheets.specs.declared.kinds.Edition.{Edition}
use Rattle.sheets.specs.Edition.{IsEdition}
use Rattle.sheets.specs.Network.{Cell, Wired}
use Rattle.sheets.specs.Record.{cell_of}
use Rattle.sheets.specs.Sheet.{record_at, records, cells_from, sheet_cells, sheet_bit, Good}
use Rattle.sheets.specs.Reading.{reads}
use Rattle.sheets.proofs.Wiring.{cells_length, good_wired}
use Rattle.refusals.specs.Verdicts.{Fine}
use Rattle.refusals.specs.Lines.{InOrder}
use Rattle.refusals.proofs.Tests.{inside}
use Rattle.refusals.proofs.Sheets.{good_sheet}
use Rattle.values.specs.Formula.{value}
use Rattle.formulas.specs.Text.{most_text, ReadAs}
use Rattle.printing.specs.Forms.{mark_of}
use Rattle.printing.specs.Print.{printed, sheet_text, formula_of}
use Rattle.printing.specs.Printable.{Plain, AllPlain, Printable, plain_cell, all_plain, once_read, not_printed}
use Rattle.printing.specs.Put.{Put, Room}
use Rattle.printing.specs.WriteFormula.{write_lines, write_done}
use Rattle.printing.proofs.Cells.{table-lt}
use Rattle.printing.proofs.Forms.{mark_depends, depends_mark}
use Rattle.printing.proofs.Turns.{Each}
use Rattle.printing.proofs.Lengths.{text_short}
use Rattle.printing.proofs.Spelling.{Formed, text_formula, formula_runs}

-- ---- the tests

module _ (c : Cell) (fits : c.table < 2 ^ (2 ^ length c.signals)) where
  small : length c.signals ≡ 2 → c.table < 16
  small q = subst (λ (k : ℕ). c.table < 2 ^ (2 ^ k)) q fits

  plain_is : plain_cell c ≡ true → Plain c
  plain_is h = go (eqb (length c.signals) 1) refl h
    where
      two : (length c.signals ≡ 2) → 0 < mark_of c.table → Plain c
      two q m = record { some = omega arith; few = omega arith; both = λ r. mark_depends c.table (small q) m }

      go : (b : Bool) → eqb (length c.signals) 1 ≡ b
          → (b || (eqb (length c.signals) 2 && ltb 0 (mark_of c.table))) ≡ true → Plain c
      go true q h = let e = eqb-true (length c.signals) 1 q
          in record { some = omega arith; few = omega arith; both = λ r. absurd (omega arith) }
      go false q h =
          two (eqb-true (length c.signals) 2 (and_left (eqb (length c.signals) 2) (ltb 0 (mark_of c.table)) h))
          (ltb-true 0 (mark_of c.table) (and_right (eqb (length c.signals) 2) (ltb 0 (mark_of c.table)) h))

  is_plain : Plain c → plain_cell c ≡ true
  is_plain p = go (eqb (length c.signals) 1) refl
    where
      go : (b : Bool) → eqb (length c.signals) 1 ≡ b
          → (b || (eqb (length c.signals) 2 && ltb 0 (mark_of c.table))) ≡ true
      go true q = refl
      go false q =
          let n = eqb-false (length c.signals) 1 q in
          let e : length c.signals ≡ 2 = omega (arith, p.some, p.few) in
          ap₂ (λ (a b : Bool). a && b) (eq-eqb (length c.signals) 2 e)
          (lt-ltb 0 (mark_of c.table) (depends_mark c.table (small e) (p.both e)))

module _ (e : Edition) (s : List ℕ) where
  pub plain_all : (m i : ℕ) → all_plain (cells_from e s i m) ≡ true → AllPlain (cells_from e s i m)
  unfolding cells_from
  plain_all zero i h = tt
  plain_all (suc m) i h =
      let c = cell_of e (record_at e s i) in (
        plain_is c (table-lt e (record_at e s i)) (and_left (plain_cell c) (all_plain (cells_from e s (suc i) m)) h),
        plain_all m (suc i) (and_right (plain_cell c) (all_plain (cells_from e s (suc i) m)) h),
      )

  all_plain_lem : (m i : ℕ) → AllPlain (cells_from e s i m) → all_plain (cells_from e s i m) ≡ true
  unfolding cells_from
  all_plain_lem zero i p = refl
  all_plain_lem (suc m) i p = ap₂ (λ (a b : Bool). a && b)
      (is_plain (cell_of e (record_at e s i)) (table-lt e (record_at e s i)) p.0) (all_plain_lem m (suc i) p.1)

  formed : (m i : ℕ) → AllPlain (cells_from e s i m) → Each Formed (cells_from e s i m)
  unfolding cells_from
  formed zero i p = tt
  formed (suc m) i p = (record { plain = p.0; table = table-lt e (record_at e s i) }, formed m (suc i) p.1)

once_is : (n : ℕ) (cs : List Cell) → once_read n cs ≡ true → (i : ℕ) → i + 1 < length cs → reads (n + i) cs ≡ 1
once_is n cs h i l = eqb-true (reads (n + i) cs) 1
    (every_at (length cs - 1) (λ i. eqb (reads (n + i) cs) 1) h i (omega arith))

is_once : (n : ℕ) (cs : List Cell) → ((i : ℕ) → i + 1 < length cs → reads (n + i) cs ≡ 1) → once_read n cs ≡ true
is_once n cs h = every_all (length cs - 1) (λ i. eqb (reads (n + i) cs) 1)
    (λ i l. eq-eqb (reads (n + i) cs) 1 (h i (omega arith)))

module _ (e : Edition) (n : ℕ) (s : List ℕ) where
  abbrev cells : List Cell
  cells = sheet_cells e s (records e s)

  -- line 16 lets through exactly the sheets that are printed
  pub printed_exactly : ((not_printed e n s).holds ≡ false) ↔ Printable n cells
  printed_exactly = (
    λ h. let b = not-false (all_plain cells && once_read n cells) h in
        record {
          plain = plain_all e s (records e s) 0 (and_left (all_plain cells) (once_read n cells) b);
          once = once_is n cells (and_right (all_plain cells) (once_read n cells) b);
        },
    λ p. ap₂ (λ (a b : Bool). not (a && b)) (all_plain_lem e s (records e s) 0 p.plain) (is_once n cells p.once),
  )

-- ---- a sheet that is printed

pub record Sound (e : Edition) (n : ℕ) (s room : List ℕ) : Type 0 where
  pub sound : IsEdition e
  pub some : 1 ≤ n
  pub inputs : n ≤ most_inputs
  pub long : most_text ≤ length room
  pub desk : ℕ
  pub good : Good e desk n s (records e s)
  pub printable : Printable n (sheet_cells e s (records e s))

pub sound : (e : Edition) (d n : ℕ) (s room : List ℕ) → IsEdition e → InOrder (write_lines e d n s room)
    → Sound e n s room
sound e d n s room o w =
    let i = inside 1 n most_inputs w.0 in
    record {
      sound = o;
      some = i.0;
      inputs = i.1;
      long = ltb-false (length room) most_text w.1.0;
      desk = d;
      good = good_sheet e d n s o (w.1.1.0, (w.1.1.1.0, tt));
      printable = (printed_exactly e n s).0 w.1.1.1.1.0;
    }

module _ {e : Edition} {n : ℕ} {s room : List ℕ} (k : Sound e n s room) where
  abbrev m : ℕ
  m = records e s

  many : length (sheet_cells e s m) ≡ m
  many = cells_length e s 0 m

  wired : Wired e.most n (sheet_cells e s m)
  wired = good_wired e k.desk n s k.sound m k.good.rules

  last : n + (length (sheet_cells e s m) - 1) ≡ n + (m - 1)
  last = ap (λ (j : ℕ). n + (j - 1)) many

  pub short : length (sheet_text e n s) ≤ 105
  short =
      omega (
        arith,
        text_short n e.most (sheet_cells e s m) (omega (arith, many, k.good.some)) wired k.printable,
        ap (λ (x : ℕ). length (printed n (sheet_cells e s m) x)) last,
        many,
        k.good.most,
      )

  -- the last record's signal has room
  pub ready : Room e n s (n + (m - 1)) false room 0
  ready = record {
    sheet = record {
      sound = k.sound;
      inputs = k.inputs;
      most = k.good.most;
      long = omega (arith, k.good.whole);
      wired = wired;
      plain = k.printable.plain;
    };
    signal = omega (arith, k.good.some);
    fits = omega (arith, short, k.long);
  }

  -- what was put is the text, and the bytes past it stay
  pub written : {after : List ℕ} {q : ℕ} → Put room 0 (sheet_text e n s) after q
      → record { answer = record { verdict = Fine; length = q }; room = after } ≡ write_done e n s room
  written {after} {q} p =
      let w = sheet_text e n s in
      let l : q ≡ length w = omega (arith, p.next) in
      let z : 0 + length w ≡ length w = omega arith in
      ap₂ (λ (i : ℕ) (r : List ℕ). record { answer = record { verdict = Fine; length = i }; room = r }) l
      (p.bytes ∙ sets-eq w room 0 (omega (arith, short, k.long)) ∙ ap (λ (i : ℕ). w ++ drop i room) z)

  -- the text is read back as the formula of the last record, which is worth what the sheet gives
  pub reads_back : ReadAs n (sheet_text e n s) (formula_of n (sheet_cells e s m) (n + (m - 1)))
  reads_back = record {
    short = omega (arith, short);
    stands = rw (sym last) (text_formula n e.most (sheet_cells e s m) wired (formed e s m 0 k.printable.plain)
        (omega (arith, many, k.good.some)) (omega (arith, many, k.good.most)));
  }

  pub worth : (x : ℕ) → value (formula_of n (sheet_cells e s m) (n + (m - 1))) x ≡ sheet_bit e n s m x
  unfolding sheet_bit
  worth x =
      ap (λ (j : ℕ). value (formula_of n (sheet_cells e s m) j) x) (sym last)
      ∙ formula_runs n e.most (sheet_cells e s m) wired (formed e s m 0 k.printable.plain)
      (omega (arith, many, k.good.some)) x
