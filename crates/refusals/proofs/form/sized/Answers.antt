-- `sized` meets its contract: each return is the first of the two lines that holds, or that none does. Assumes nothing.
use mathlib.Core.Path.{sym, ◌∙◌}
use native.Mathlib.Omega.{arith}
use Rattle.refusals.specs.Refusals.{sized_lines}
use Rattle.refusals.proofs.Lines.{fine, here, later, decides}
use Rattle.refusals.proofs.Tests.{few_inputs}
use Rattle.refusals.proofs.form.sized.Goals as goal

pub returns-then-bad_inputs : goal.returns-then-bad_inputs
returns-then-bad_inputs c =
    let a = c.args in
    decides (sized_lines a.n a.t.now)
    (here (sym c.bad_inputs.ensures ∙ c.if-bad_inputs.true))

pub bad_table-requires : goal.bad_table-requires
bad_table-requires c = few_inputs _ c.bad_inputs.ensures c.if-bad_inputs.false

pub returns-then-bad_table : goal.returns-then-bad_table
returns-then-bad_table c =
    let a = c.args in
    decides (sized_lines a.n a.t.now) (later (sym c.bad_inputs.ensures ∙ c.if-bad_inputs.false)
    (here (sym c.bad_table.ensures ∙ c.if-bad_table.true)))

pub returns : goal.returns
returns c =
    let a = c.args in
    decides (sized_lines a.n a.t.now) (later (sym c.bad_inputs.ensures ∙ c.if-bad_inputs.false)
    (later (sym c.bad_table.ensures ∙ c.if-bad_table.false) fine))

pub overflow_cast-n : goal.overflow_cast-n
overflow_cast-n c =
    omega (
      arith,
      few_inputs c.args.n c.bad_inputs.ensures c.if-bad_inputs.false,
    )
