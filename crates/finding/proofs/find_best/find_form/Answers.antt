-- `find_form` meets its contract: each return is the first line that holds, or that none does. Assumes nothing.
use mathlib.Core.Path.{◌∙◌}
use mathlib.Core.List.{[], ◌∷◌}
use lib.ListN.{length}
use borrow.Author.Tests.{lt-ltb, le-ltb}
use Rattle.tables.specs.Work.{work_length}
use Rattle.refusals.specs.Refusals.{gate_lines, short_work}
use Rattle.refusals.proofs.Lines.{fine, here, later, decided}
use Rattle.refusals.proofs.Results.{said_ok, handed_on, stopped_by}
use Rattle.finding.proofs.find_best.find_form.Goals as goal

pub returns-in_err-gate : goal.returns-in_err-gate
returns-in_err-gate c =
    let a = c.args in
    handed_on _ _ c.from_residual.ensures.1
    ∙ stopped_by (gate_lines a.e a.n a.k a.t.now) (short_work a.work.now ∷ []) _ c.gate.ensures _ c.in_err-gate.was

pub returns-then-work-lt-WORK : goal.returns-then-work-lt-WORK
returns-then-work-lt-WORK c =
    let a = c.args in
    decided (gate_lines a.e a.n a.k a.t.now) (short_work a.work.now ∷ []) _ c.gate.ensures
    (said_ok _ _ c.in_ok-gate.was) (here (lt-ltb (length a.work.now) work_length c.if-work-lt-WORK.true))

pub returns : goal.returns
returns c =
    let a = c.args in
    decided (gate_lines a.e a.n a.k a.t.now) (short_work a.work.now ∷ []) _ c.gate.ensures
    (said_ok _ _ c.in_ok-gate.was) (later (le-ltb (length a.work.now) work_length c.if-work-lt-WORK.false) fine)
