-- `table` meets its contract: what lines 1 and 3 refuse, else line 4. Assumes nothing.
use mathlib.Core.Path.{sym, ap, ◌∙◌}
use mathlib.Core.Bool.{not}
use mathlib.Core.List.{[], ◌∷◌}
use native.Mathlib.Omega.{arith}
use Rattle.refusals.specs.Refusals.{bad_spare, sized_lines}
use Rattle.refusals.proofs.Lines.{fine, here, later, decided}
use Rattle.refusals.proofs.Results.{said_ok, handed_on, stopped_by}
use Rattle.refusals.proofs.Tests.{sized_through, spare_line}
use Rattle.refusals.proofs.form.table.Goals as goal

pub returns-in_err-sized : goal.returns-in_err-sized
returns-in_err-sized c =
    let a = c.args in
    handed_on _ _ c.from_residual.ensures.1
    ∙ stopped_by (sized_lines a.n a.t.now) (bad_spare a.n a.t.now ∷ []) _ c.sized.ensures _ c.in_err-sized.was

pub spare_clear-requires : goal.spare_clear-requires
spare_clear-requires c =
    sized_through _ c.args.t.now _ c.sized.ensures (said_ok _ _ c.in_ok-sized.was)

pub returns-then-not-spare_clear : goal.returns-then-not-spare_clear
returns-then-not-spare_clear c =
    let a = c.args in
    decided (sized_lines a.n a.t.now) (bad_spare a.n a.t.now ∷ []) _ c.sized.ensures
    (said_ok _ _ c.in_ok-sized.was)
    (here (spare_line a.n a.t.now ∙ ap not (sym c.spare_clear.ensures) ∙ ap not c.if-not-spare_clear.true))

pub returns : goal.returns
returns c =
    let a = c.args in
    decided (sized_lines a.n a.t.now) (bad_spare a.n a.t.now ∷ []) _ c.sized.ensures
    (said_ok _ _ c.in_ok-sized.was)
    (later (spare_line a.n a.t.now ∙ ap not (sym c.spare_clear.ensures) ∙ ap not c.if-not-spare_clear.false) fine)

pub overflow_cast-n : goal.overflow_cast-n
overflow_cast-n c =
    let a = c.args in
    omega (arith, (sized_through a.n a.t.now _ c.sized.ensures (said_ok _ _ c.in_ok-sized.was)).0)
