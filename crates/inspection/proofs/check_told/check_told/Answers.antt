-- `check_told` meets its contract: n and the edition refuse, or the edition handed down is the one with that number.
-- Assumes nothing.
use mathlib.Core.Path.{sym, ap, ◌∙◌, subst}
use Rattle.sheets.specs.declared.kinds.Edition.{Edition}
use Rattle.sheets.specs.Edition.{IsEdition, edition_of}
use Rattle.sheets.specs.Desk.{desk_of}
use Rattle.sheets.proofs.Keeping.{is_edition}
use Rattle.refusals.specs.Refusals.{told_form}
use Rattle.refusals.proofs.Lines.{goes_on}
use Rattle.inspection.specs.CheckSheet.{check_lines, check_outcome, check_own}
use Rattle.refusals.proofs.Results.{said_ok, handed_on, stopped_by}
use Rattle.inspection.proofs.check_told.check_told.Goals as goal

pub returns-in_err-told : goal.returns-in_err-told
returns-in_err-told c =
    let a = c.args in
    let e = edition_of a.w in
    handed_on _ _ c.from_residual.ensures.1
    ∙ stopped_by (told_form a.w a.n) (check_lines e (desk_of e a.s.now) a.n a.t.now a.s.now) _ c.told.ensures _
    c.in_err-told.was

pub returns : goal.returns
unfolding check_outcome
returns c =
    let a = c.args in
    let e = edition_of a.w in
    goes_on (told_form a.w a.n) (check_lines e (desk_of e a.s.now) a.n a.t.now a.s.now) _
    c.told.ensures (said_ok _ _ c.in_ok-told.was) (c.check_own.ensures
    ∙ ap (λ (e : Edition). check_own e a.n a.t.now a.s.now) c.numbered.ensures)

pub check_own-requires : goal.check_own-requires
check_own-requires c = subst IsEdition (sym c.numbered.ensures) (is_edition _)
