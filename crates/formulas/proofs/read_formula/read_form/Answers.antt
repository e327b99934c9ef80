-- `read_form` meets its contract: what lines 1 and 3 refuse, else what the look at the text comes to. Assumes nothing.
use mathlib.Core.Path.{◌∙◌}
use mathlib.Core.List.{[], ◌∷◌}
use native.Mathlib.Omega.{arith}
use Rattle.refusals.specs.Refusals.{sized_lines}
use Rattle.refusals.proofs.Lines.{goes_on}
use Rattle.refusals.proofs.Tests.{sized_through}
use Rattle.formulas.specs.Refusals.{bad_text}
use Rattle.refusals.proofs.Results.{said_ok, handed_on, stopped_by}
use Rattle.formulas.proofs.read_formula.read_form.Goals as goal

pub returns-in_err-sized : goal.returns-in_err-sized
returns-in_err-sized c =
    let a = c.args in
    handed_on _ _ c.from_residual.ensures.1
    ∙ stopped_by (sized_lines a.n a.table.now) (bad_text a.n a.t.now ∷ []) _ c.sized.ensures _ c.in_err-sized.was

pub look_at_text-requires : goal.look_at_text-requires
look_at_text-requires c = (sized_through _ c.args.table.now _ c.sized.ensures (said_ok _ _ c.in_ok-sized.was)).0

pub returns : goal.returns
returns c =
    let a = c.args in
    goes_on (sized_lines a.n a.table.now) (bad_text a.n a.t.now ∷ []) _ c.sized.ensures
    (said_ok _ _ c.in_ok-sized.was) c.look_at_text.ensures

pub overflow_cast-n : goal.overflow_cast-n
overflow_cast-n c =
    let a = c.args in
    omega (arith, (sized_through a.n a.table.now _ c.sized.ensures (said_ok _ _ c.in_ok-sized.was)).0)
