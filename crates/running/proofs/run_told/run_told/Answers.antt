-- `run_told` meets its contract: n and the edition refuse, or the edition handed down is the one with that number.
-- Assumes nothing.
use mathlib.Core.Path.{sym, ap, ◌∙◌, subst}
use mathlib.Core.Bool.{false}
use Rattle.sheets.specs.declared.kinds.Edition.{Edition}
use Rattle.sheets.specs.Edition.{IsEdition, edition_of}
use Rattle.sheets.specs.Desk.{desk_of}
use Rattle.sheets.proofs.Keeping.{is_edition}
use Rattle.refusals.specs.Verdicts.{Verdict}
use Rattle.refusals.specs.Refusals.{told_form}
use Rattle.refusals.proofs.Lines.{refused_by, left_to}
use Rattle.refusals.proofs.Results.{said_ok, said_err, refused_with}
use Rattle.running.specs.RunSheet.{run_lines, run_done, run_not, run_answer, run_outcome, run_own}
use Rattle.running.proofs.run_told.run_told.Goals as goal

pub returns-in_err-told : goal.returns-in_err-told
returns-in_err-told c =
    let a = c.args in
    let e = edition_of a.w in
    ap run_answer (refused_with _ _ c.from_residual.ensures.1)
    ∙ refused_by (told_form a.w a.n) (run_lines e (desk_of e a.s.now) a.n a.s.now a.x)
    (run_done e a.n a.s.now a.x) run_not _ _ c.told.ensures (said_err _ _ c.in_err-told.was)

pub returns : goal.returns
unfolding run_outcome
returns c =
    let a = c.args in
    let e = edition_of a.w in
    c.run_own.ensures
    ∙ ap (λ (e : Edition). run_own e a.n a.s.now a.x) c.numbered.ensures
    ∙ left_to (told_form a.w a.n) (run_lines e (desk_of e a.s.now) a.n a.s.now a.x)
    (run_done e a.n a.s.now a.x) run_not
    _ c.told.ensures (said_ok _ _ c.in_ok-told.was)

pub run_own-requires : goal.run_own-requires
run_own-requires c = subst IsEdition (sym c.numbered.ensures) (is_edition _)
