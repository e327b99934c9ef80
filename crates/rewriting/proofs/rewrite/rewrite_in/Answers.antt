-- `rewrite_in` meets its contract: a refusal is its lines' verdict, and where these are in order the sheet is good and
-- the room is long enough. Assumes nothing.
use Rattle.std.proofs.Common.{Result}
use Rattle.refusals.specs.declared.verdicts.Refusal.{Refusal as Why}
use mathlib.Core.Path.{◌≡◌, sym, ap, ◌∙◌}
use mathlib.Core.List.{List, ◌++◌}
use Prim.Native.Nat.{ℕ, ◌*◌}
use native.Mathlib.Nat.{mul-le-mul_left}
use native.Mathlib.Omega.{arith}
use lib.ListN.{length, drop}
use borrow.Author.Tests.{ltb-false}
use Rattle.tables.specs.Table.{most_inputs}
use Rattle.sheets.specs.Edition.{most_records}
use Rattle.sheets.specs.Sheet.{records, sheet_cells}
use Rattle.sheets.proofs.Wiring.{cells_length}
use Rattle.sheets.proofs.Wholes.{length-sheet}
use Rattle.refusals.specs.Verdicts.{Verdict, Fine}
use Rattle.refusals.specs.Lines.{reply}
use Rattle.refusals.proofs.Lines.{in_order_lem}
use Rattle.refusals.proofs.Tests.{inside}
use Rattle.refusals.proofs.Sheets.{good_sheet, runnable}
use Rattle.rewriting.specs.Rewrite.{rewrite_answer, rewritten, rewrite_lines, rewrite_done, rewrite_not, rewrite_outcome}
use Rattle.refusals.proofs.Results.{said_ok, refused_with, replied}
use Rattle.rewriting.proofs.rewrite.rewrite_in.Goals as goal

pub returns-in_err-rewrite_form : goal.returns-in_err-rewrite_form
unfolding rewrite_outcome
returns-in_err-rewrite_form c =
    let a = c.args in
    ap (λ (r : Result ℕ Why). record { answer = rewrite_answer r; room = a.room.now })
    (refused_with _ _ c.from_residual.ensures.1)
    ∙ replied (rewrite_lines a.e a.f a.d a.n a.s.now a.room.now) _ c.rewrite_form.ensures _
    (rewrite_done a.e a.f a.d a.s.now a.room.now) (rewrite_not a.room.now) c.in_err-rewrite_form.was

pub write_cells-requires : goal.write_cells-requires
write_cells-requires c =
    let a = c.args in
    let w = in_order_lem (rewrite_lines a.e a.f a.d a.n a.s.now a.room.now)
    (sym c.rewrite_form.ensures ∙ (said_ok _ _ c.in_ok-rewrite_form.was)) in
    let r = runnable a.e a.d a.n a.s.now c.requires.0 (records a.e a.s.now)
    (inside 1 a.n most_inputs w.0).1
    (good_sheet a.e a.d a.n a.s.now c.requires.0 (w.1.1.0, (w.1.1.1.0, tt))) in record {
      edition = (r.0, r.1, r.3, r.4);
      edition_2 = (
        c.requires.1,
        c.requires.2,
        omega (
          arith,
          ltb-false (length a.room.now) (a.f.size * most_records) w.1.0,
          mul-le-mul_left
              {m = records a.e a.s.now} {n = most_records} a.f.size r.1,
        ),
      );
    }

pub returns : goal.returns
unfolding rewrite_outcome
returns c =
    let a = c.args in
    let m = records a.e a.s.now in
    let bytes = rewritten a.e a.f a.d a.s.now m in
    let long : length bytes ≡ a.f.size * m =
    length-sheet a.f a.d (sheet_cells a.e a.s.now m)
    ∙ ap (λ (k : ℕ). a.f.size * k) (cells_length a.e a.s.now 0 m) in
    ap (λ (l : List ℕ). record { answer = record { verdict = Fine; count = m }; room = l })
    (c.write_cells.ensures ∙ ap (λ (k : ℕ). bytes ++ drop k a.room.now) (sym long))
    ∙ ap (λ (v : Verdict). reply v (rewrite_done a.e a.f a.d a.s.now a.room.now)
    (rewrite_not a.room.now))
    (sym (said_ok _ _ c.in_ok-rewrite_form.was) ∙ c.rewrite_form.ensures)
