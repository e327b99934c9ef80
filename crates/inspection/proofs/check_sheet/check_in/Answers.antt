-- `check_in` meets its contract: each return is the first line that holds, or that none does; a good sheet can be run.
-- Assumes nothing.
use mathlib.Core.Path.{◌≡◌, refl, sym, ap, ◌∙◌, subst}
use mathlib.Core.Bool.{true}
use mathlib.Core.List.{List, [], ◌∷◌, ◌++◌}
use Prim.Native.Nat.{ℕ, ◌^◌, ◌<◌, ◌≤◌}
use native.Mathlib.Omega.{arith}
use lib.ListN.{length}
use borrow.Author.Tests.{lt-ltb, le-ltb, not-false}
use Rattle.bits.proofs.Places.{found_there, found_nowhere}
use Rattle.tables.specs.Table.{most_inputs, table_length, spare_clear}
use Rattle.sheets.specs.declared.kinds.Edition.{Edition}
use Rattle.sheets.specs.Sheet.{records}
use Rattle.runs.specs.Checking.{first_difference}
use Rattle.refusals.specs.Verdicts.{Verdict, Fine, Refused}
use Rattle.refusals.specs.Lines.{Line, refusal, verdict}
use Rattle.refusals.specs.Refusals.{sheet_lines, table_differs, unread_record}
use Rattle.refusals.proofs.Lines.{here, in_order_lem, passes, goes_on, decided}
use Rattle.refusals.proofs.Tests.{inside, right_table, spare_line}
use Rattle.refusals.proofs.Results.{said_ok, handed_on, stopped_by}
use Rattle.refusals.proofs.Sheets.{good_sheet, runnable}
use Rattle.inspection.specs.CheckSheet.{table_lines, check_outcome}
use Rattle.inspection.proofs.check_sheet.check_in.Goals as goal

-- what lines 1, 3 and 4 let through, as a look at them comes to v
record Table (n : ℕ) (t : List ℕ) : Type 0 where
  most : n ≤ most_inputs
  long : length t ≡ table_length n
  spare : spare_clear n t ≡ true

looked : (n : ℕ) (t : List ℕ) (v : Verdict) → v ≡ verdict (table_lines n t) → v ≡ Fine → Table n t
looked n t v p q = let w = in_order_lem (table_lines n t) (sym p ∙ q) in record {
  most = (inside 1 n most_inputs w.0).1;
  long = right_table n t w.1.0;
  spare = not-false (spare_clear n t) (sym (spare_line n t) ∙ w.1.1.0);
}

-- the lines of the sheet, and those behind them
abbrev ls : Edition → ℕ → ℕ → List ℕ → List Line
ls e d n s = sheet_lines e d n s

abbrev last : Edition → ℕ → List ℕ → List Line
last e n s = unread_record e n s ∷ []

abbrev ms : Edition → ℕ → List ℕ → List ℕ → List Line
ms e n t s = table_differs e n t s ∷ last e n s

-- the lines behind those of the table decide
behind : (e : Edition) (d n : ℕ) (t s : List ℕ) (v : Verdict) → v ≡ verdict (table_lines n t) → v ≡ Fine
    → verdict (ls e d n s ++ ms e n t s) ≡ check_outcome e d n t s
unfolding check_outcome
behind e d n t s v p q = goes_on (table_lines n t) (ls e d n s ++ ms e n t s) v p q refl

pub returns-in_err-table : goal.returns-in_err-table
unfolding check_outcome
returns-in_err-table c =
    let a = c.args in
    handed_on _ _ c.from_residual.ensures.1
    ∙ stopped_by (table_lines a.n a.t.now) (ls a.e a.d a.n a.s.now ++ ms a.e a.n a.t.now a.s.now) _ c.table.ensures _
    c.in_err-table.was

pub overflow_cast-inputs : goal.overflow_cast-inputs
overflow_cast-inputs c =
    let a = c.args in
    omega (arith, (looked a.n a.t.now _ c.table.ensures (said_ok _ _ c.in_ok-table.was)).most)

pub sheet-requires : goal.sheet-requires
sheet-requires c =
    let a = c.args in
    (c.requires, (looked a.n a.t.now _ c.table.ensures (said_ok _ _ c.in_ok-table.was)).most)

pub returns-in_err-sheet : goal.returns-in_err-sheet
returns-in_err-sheet c =
    let a = c.args in
    handed_on _ _ c.from_residual-in_err-sheet.ensures.1
    ∙ stopped_by (ls a.e a.d a.n a.s.now) (ms a.e a.n a.t.now a.s.now) _ c.sheet.ensures _ c.in_err-sheet.was
    ∙ behind a.e a.d a.n a.t.now a.s.now _ c.table.ensures (said_ok _ _ c.in_ok-table.was)

pub nonzero_div-s : goal.nonzero_div-s
nonzero_div-s c = omega (arith, c.requires.ends, c.requires.order)

pub first_difference-requires : goal.first_difference-requires
first_difference-requires c =
    let a = c.args in
    let w = looked a.n a.t.now _ c.table.ensures (said_ok _ _ c.in_ok-table.was) in
    let kept = in_order_lem (ls a.e a.d a.n a.s.now) (sym c.sheet.ensures ∙ (said_ok _ _ c.in_ok-sheet.was)) in record {
      edition = runnable a.e a.d a.n a.s.now c.requires (records a.e a.s.now) w.most
          (good_sheet a.e a.d a.n a.s.now c.requires kept);
      t_len = (w.long, w.spare);
    }

pub returns-in-Some : goal.returns-in-Some
returns-in-Some c =
    let a = c.args in
    let x = first_difference a.e a.n a.s.now (records a.e a.s.now) a.t.now in
    let h = found_there (2 ^ a.n) x _ (sym c.in-Some.ensures) in
    ap (λ (k : ℕ). Refused (refusal 12 k)) (sym h.0)
    ∙ decided (ls a.e a.d a.n a.s.now) (ms a.e a.n a.t.now a.s.now) _ c.sheet.ensures (said_ok _ _ c.in_ok-sheet.was)
    (here (lt-ltb x (2 ^ a.n) (subst (λ (k : ℕ). k < 2 ^ a.n) (sym h.0) h.1)))
    ∙ behind a.e a.d a.n a.t.now a.s.now _ c.table.ensures (said_ok _ _ c.in_ok-table.was)

pub all_read-requires : goal.all_read-requires
all_read-requires c =
    let a = c.args in (
      c.requires,
      (looked a.n a.t.now _ c.table.ensures (said_ok _ _ c.in_ok-table.was)).most,
      in_order_lem (ls a.e a.d a.n a.s.now) (sym c.sheet.ensures ∙ (said_ok _ _ c.in_ok-sheet.was)),
    )

pub returns : goal.returns
returns c =
    let a = c.args in
    let x = first_difference a.e a.n a.s.now (records a.e a.s.now) a.t.now in
    let far = found_nowhere (2 ^ a.n) x (sym c.in_default.ensures) in
    goes_on (ls a.e a.d a.n a.s.now) (ms a.e a.n a.t.now a.s.now) _ c.sheet.ensures (said_ok _ _ c.in_ok-sheet.was)
    (c.all_read.ensures
    ∙ sym (passes (table_differs a.e a.n a.t.now a.s.now ∷ []) (last a.e a.n a.s.now)
    (le-ltb x (2 ^ a.n) far, tt)))
    ∙ behind a.e a.d a.n a.t.now a.s.now _ c.table.ensures (said_ok _ _ c.in_ok-table.was)
