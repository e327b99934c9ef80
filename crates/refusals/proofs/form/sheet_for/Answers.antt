-- `sheet_for` meets its contract: line 1, then what the look at the sheet comes to. Assumes nothing.
use mathlib.Core.Path.{sym, ◌∙◌}
use mathlib.Core.List.{[], ◌∷◌}
use native.Mathlib.Omega.{arith}
use Rattle.refusals.specs.Refusals.{bad_inputs, sheet_lines}
use Rattle.refusals.proofs.Lines.{here, decides, passes}
use Rattle.refusals.proofs.Tests.{few_inputs}
use Rattle.refusals.proofs.form.sheet_for.Goals as goal

pub returns-then-bad_inputs : goal.returns-then-bad_inputs
returns-then-bad_inputs c =
    let a = c.args in
    decides (bad_inputs a.n ∷ sheet_lines a.e a.d a.n a.s.now)
    (here (sym c.bad_inputs.ensures ∙ c.if-bad_inputs.true))

pub sheet-requires : goal.sheet-requires
sheet-requires c = (c.requires, few_inputs _ c.bad_inputs.ensures c.if-bad_inputs.false)

pub returns : goal.returns
returns c =
    let a = c.args in
    c.sheet.ensures ∙ sym (passes (bad_inputs a.n ∷ []) (sheet_lines a.e a.d a.n a.s.now)
    (sym c.bad_inputs.ensures ∙ c.if-bad_inputs.false, tt))

pub overflow_cast-n : goal.overflow_cast-n
overflow_cast-n c =
    omega (
      arith,
      few_inputs c.args.n c.bad_inputs.ensures c.if-bad_inputs.false,
    )
