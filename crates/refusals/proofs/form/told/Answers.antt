-- `told` meets its contract: each return is the first of the two lines that holds, or that none does. Assumes nothing.
use mathlib.Core.Path.{sym, ◌∙◌}
use Rattle.refusals.specs.Refusals.{told_form}
use Rattle.refusals.proofs.Lines.{fine, here, later, decides}
use Rattle.refusals.proofs.form.told.Goals as goal

pub returns-then-bad_inputs : goal.returns-then-bad_inputs
returns-then-bad_inputs c =
    let a = c.args in
    decides (told_form a.w a.n) (here (sym c.bad_inputs.ensures ∙ c.if-bad_inputs.true))

pub returns-then-bad_edition : goal.returns-then-bad_edition
returns-then-bad_edition c =
    let a = c.args in
    decides (told_form a.w a.n) (later (sym c.bad_inputs.ensures ∙ c.if-bad_inputs.false)
    (here (sym c.bad_edition.ensures ∙ c.if-bad_edition.true)))

pub returns : goal.returns
returns c =
    let a = c.args in
    decides (told_form a.w a.n) (later (sym c.bad_inputs.ensures ∙ c.if-bad_inputs.false)
    (later (sym c.bad_edition.ensures ∙ c.if-bad_edition.false) fine))
