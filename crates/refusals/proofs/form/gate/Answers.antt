-- `gate` meets its contract: lines 1 and 2, then what the look at the table comes to, which looks at n again. Assumes
-- nothing.
use mathlib.Core.Path.{sym, ◌∙◌}
use mathlib.Core.List.{[], ◌∷◌}
use Rattle.refusals.specs.Refusals.{bad_inputs, bad_cell, bad_table, bad_spare, gate_lines}
use Rattle.refusals.proofs.Lines.{here, later, decides, passes}
use Rattle.refusals.proofs.form.gate.Goals as goal

pub returns-then-bad_inputs : goal.returns-then-bad_inputs
returns-then-bad_inputs c =
    let a = c.args in
    decides (gate_lines a.e a.n a.k a.t.now)
    (here (sym c.bad_inputs.ensures ∙ c.if-bad_inputs.true))

pub returns-then-bad_cell : goal.returns-then-bad_cell
returns-then-bad_cell c =
    let a = c.args in
    decides (gate_lines a.e a.n a.k a.t.now)
    (later (sym c.bad_inputs.ensures ∙ c.if-bad_inputs.false)
    (here (sym c.bad_cell.ensures ∙ c.if-bad_cell.true)))

pub returns : goal.returns
returns c =
    let a = c.args in
    let h = sym c.bad_inputs.ensures ∙ c.if-bad_inputs.false in
    let ms = bad_table a.n a.t.now ∷ bad_spare a.n a.t.now ∷ [] in
    c.table.ensures ∙ passes (bad_inputs a.n ∷ []) ms (h, tt)
    ∙ sym (passes (bad_inputs a.n ∷ bad_cell a.e a.k ∷ []) ms
    (h, (sym c.bad_cell.ensures ∙ c.if-bad_cell.false, tt)))
