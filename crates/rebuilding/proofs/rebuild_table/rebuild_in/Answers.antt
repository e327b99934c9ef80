-- `rebuild_in` meets its contract: a refusal is its lines' verdict, and where these are in order the sheet is good and
-- can be run. Assumes nothing.
use mathlib.Core.Path.{sym, ap, ◌∙◌}
use mathlib.Core.List.{List}
use Prim.Native.Nat.{ℕ}
use native.Mathlib.Omega.{arith}
use Rattle.tables.specs.Table.{most_inputs}
use Rattle.sheets.specs.Sheet.{records}
use Rattle.refusals.specs.Verdicts.{Verdict, Fine}
use Rattle.refusals.specs.Lines.{reply}
use Rattle.refusals.proofs.Lines.{in_order_lem}
use Rattle.refusals.proofs.Tests.{inside, right_table}
use Rattle.refusals.proofs.Sheets.{good_sheet, runnable}
use Rattle.rebuilding.specs.RebuildTable.{rebuild_lines, rebuild_done, rebuild_not, rebuild_outcome}
use Rattle.refusals.proofs.Results.{said_ok, handed_on, replied}
use Rattle.rebuilding.proofs.rebuild_table.rebuild_in.Goals as goal

pub returns-in_err-rebuild_form : goal.returns-in_err-rebuild_form
unfolding rebuild_outcome
returns-in_err-rebuild_form c =
    let a = c.args in
    ap (λ (v : Verdict). record { verdict = v; table = a.table.now }) (handed_on _ _ c.from_residual.ensures.1)
    ∙ replied (rebuild_lines a.e a.d a.n a.s.now a.table.now) _ c.rebuild_form.ensures _ (rebuild_done a.e a.n a.s.now)
    (rebuild_not a.table.now) c.in_err-rebuild_form.was

pub nonzero_div-m : goal.nonzero_div-m
nonzero_div-m c = omega (arith, c.requires.ends, c.requires.order)

pub overflow_cast-n : goal.overflow_cast-n
overflow_cast-n c =
    let a = c.args in
    let w = in_order_lem (rebuild_lines a.e a.d a.n a.s.now a.table.now)
    (sym c.rebuild_form.ensures ∙ (said_ok _ _ c.in_ok-rebuild_form.was)) in
    omega (arith, inside 1 a.n most_inputs w.0)

pub rebuild-requires : goal.rebuild-requires
rebuild-requires c =
    let a = c.args in
    let w = in_order_lem (rebuild_lines a.e a.d a.n a.s.now a.table.now)
    (sym c.rebuild_form.ensures ∙ (said_ok _ _ c.in_ok-rebuild_form.was)) in record {
      edition = runnable a.e a.d a.n a.s.now c.requires (records a.e a.s.now)
          (inside 1 a.n most_inputs w.0).1
          (good_sheet a.e a.d a.n a.s.now c.requires (w.1.1.0, (w.1.1.1.0, tt)));
      out_len = right_table a.n a.table.now w.1.0;
    }

pub returns : goal.returns
unfolding rebuild_outcome
returns c =
    let a = c.args in
    ap (λ (t : List ℕ). record { verdict = Fine; table = t }) c.rebuild.ensures
    ∙ ap (λ (v : Verdict). reply v (rebuild_done a.e a.n a.s.now) (rebuild_not a.table.now))
    (sym (said_ok _ _ c.in_ok-rebuild_form.was) ∙ c.rebuild_form.ensures)
