-- `read_formula` meets its contract: a refusal is its lines' verdict, and where these are in order the text is a
-- formula. Assumes nothing.
use mathlib.Core.Path.{sym, ap, ◌∙◌}
use mathlib.Core.List.{List}
use Prim.Native.Nat.{ℕ}
use native.Mathlib.Omega.{arith}
use Rattle.tables.specs.Table.{most_inputs}
use Rattle.refusals.specs.Verdicts.{Verdict, Fine}
use Rattle.refusals.specs.Lines.{reply}
use Rattle.refusals.proofs.Lines.{in_order_lem}
use Rattle.refusals.proofs.Tests.{inside, right_table}
use Rattle.formulas.specs.ReadFormula.{read_lines, read_done, read_not, read_outcome}
use Rattle.refusals.proofs.Results.{said_ok, handed_on, replied}
use Rattle.formulas.proofs.read_formula.read_formula.Goals as goal

pub returns-in_err-read_form : goal.returns-in_err-read_form
unfolding read_outcome
returns-in_err-read_form c =
    let a = c.args in
    let done = read_done a.n a.t.now in
    let not = read_not a.table.now in
    ap (λ (v : Verdict). record { verdict = v; table = a.table.now }) (handed_on _ _ c.from_residual.ensures.1)
    ∙ replied (read_lines a.n a.t.now a.table.now) _ c.read_form.ensures _ done not c.in_err-read_form.was

pub overflow_cast-n : goal.overflow_cast-n
overflow_cast-n c =
    let a = c.args in
    let w = in_order_lem (read_lines a.n a.t.now a.table.now)
    (sym c.read_form.ensures ∙ (said_ok _ _ c.in_ok-read_form.was)) in
    omega (arith, inside 1 a.n most_inputs w.0)

pub fill-requires : goal.fill-requires
fill-requires c =
    let a = c.args in
    let w = in_order_lem (read_lines a.n a.t.now a.table.now)
    (sym c.read_form.ensures ∙ (said_ok _ _ c.in_ok-read_form.was)) in
    ((inside 1 a.n most_inputs w.0).1, right_table a.n a.table.now w.1.0, w.1.1.0)

pub returns : goal.returns
unfolding read_outcome
returns c =
    let a = c.args in
    ap (λ (t : List ℕ). record { verdict = Fine; table = t }) c.fill.ensures
    ∙ ap (λ (v : Verdict). reply v (read_done a.n a.t.now) (read_not a.table.now))
    (sym (said_ok _ _ c.in_ok-read_form.was) ∙ c.read_form.ensures)
