-- `run_in` meets its contract: a refusal is its lines' verdict, and where these are in order the sheet is good and can
-- be run. Assumes nothing.
use mathlib.Core.Path.{sym, ap, ◌∙◌}
use mathlib.Core.Bool.{Bool, false}
use native.Mathlib.Omega.{arith}
use lib.Pow.{pow_mono}
use borrow.Author.Tests.{leb-false}
use Rattle.tables.specs.Table.{most_inputs}
use Rattle.sheets.specs.Sheet.{records}
use Rattle.refusals.specs.Verdicts.{Verdict, Fine}
use Rattle.refusals.specs.Lines.{verdict, reply}
use Rattle.refusals.proofs.Lines.{in_order_lem}
use Rattle.refusals.proofs.Tests.{inside}
use Rattle.refusals.proofs.Sheets.{good_sheet, runnable}
use Rattle.refusals.proofs.Results.{said_ok, refused_with, replied}
use Rattle.running.specs.RunSheet.{run_lines, run_done, run_not, run_answer, run_outcome}
use Rattle.running.proofs.run_sheet.run_in.Goals as goal

pub returns-in_err-run_form : goal.returns-in_err-run_form
unfolding run_outcome
returns-in_err-run_form c =
    let a = c.args in
    ap run_answer (refused_with _ _ c.from_residual.ensures.1)
    ∙ replied (run_lines a.e a.d a.n a.s.now a.x) _ c.run_form.ensures _ (run_done a.e a.n a.s.now a.x) run_not
    c.in_err-run_form.was

pub nonzero_div-m : goal.nonzero_div-m
nonzero_div-m c = omega (arith, c.requires.ends, c.requires.order)

pub bit_of-requires : goal.bit_of-requires
bit_of-requires c =
    let a = c.args in
    let w = in_order_lem (run_lines a.e a.d a.n a.s.now a.x)
    (sym c.run_form.ensures ∙ said_ok _ _ c.in_ok-run_form.was) in record {
      edition = runnable a.e a.d a.n a.s.now c.requires (records a.e a.s.now)
          (inside 1 a.n most_inputs w.0).1
          (good_sheet a.e a.d a.n a.s.now c.requires (w.1.0, (w.1.1.0, tt)));
      x_bound = leb-false _ a.x w.1.1.1.0;
    }

pub overflow_cast-n : goal.overflow_cast-n
overflow_cast-n c =
    let a = c.args in
    let w = in_order_lem (run_lines a.e a.d a.n a.s.now a.x) (sym c.run_form.ensures ∙ said_ok _ _ c.in_ok-run_form.was) in
    omega (arith, (inside 1 a.n most_inputs w.0).1)

pub overflow_cast-x : goal.overflow_cast-x
overflow_cast-x c =
    let a = c.args in
    let w = in_order_lem (run_lines a.e a.d a.n a.s.now a.x) (sym c.run_form.ensures ∙ said_ok _ _ c.in_ok-run_form.was) in
    let few = (inside 1 a.n most_inputs w.0).1 in
    omega (arith, leb-false _ a.x w.1.1.1.0, pow_mono {i = a.n} {j = most_inputs} few)

pub returns : goal.returns
unfolding run_outcome
returns c =
    let a = c.args in
    ap (λ (b : Bool). record { verdict = Fine; bit = b }) c.bit_of.ensures
    ∙ ap (λ (v : Verdict). reply v (run_done a.e a.n a.s.now a.x) run_not)
    (sym (said_ok _ _ c.in_ok-run_form.was) ∙ c.run_form.ensures)
