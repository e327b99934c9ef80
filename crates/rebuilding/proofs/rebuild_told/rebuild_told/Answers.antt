-- `rebuild_told` meets its contract: n and the edition refuse, or the edition handed down is the one with that number.
-- Assumes nothing.
use mathlib.Core.Path.{sym, ap, ◌∙◌, subst}
use Rattle.sheets.specs.declared.kinds.Edition.{Edition}
use Rattle.sheets.specs.Edition.{IsEdition, edition_of}
use Rattle.sheets.specs.Desk.{desk_of}
use Rattle.sheets.proofs.Keeping.{is_edition}
use Rattle.refusals.specs.Verdicts.{Verdict}
use Rattle.refusals.specs.Refusals.{told_form}
use Rattle.refusals.proofs.Lines.{refused_by, left_to}
use Rattle.rebuilding.specs.RebuildTable.{rebuild_lines, rebuild_done, rebuild_not, rebuild_outcome, rebuild_own}
use Rattle.refusals.proofs.Results.{said_ok, said_err, handed_on}
use Rattle.rebuilding.proofs.rebuild_told.rebuild_told.Goals as goal

pub returns-in_err-told : goal.returns-in_err-told
returns-in_err-told c =
    let a = c.args in
    let e = edition_of a.w in
    ap (λ (v : Verdict). record { verdict = v; table = a.table.now }) (handed_on _ _ c.from_residual.ensures.1)
    ∙ refused_by (told_form a.w a.n) (rebuild_lines e (desk_of e a.s.now) a.n a.s.now a.table.now)
    (rebuild_done e a.n a.s.now)
    (rebuild_not a.table.now) _ _ c.told.ensures (said_err _ _ c.in_err-told.was)

pub returns : goal.returns
unfolding rebuild_outcome
returns c =
    let a = c.args in
    let e = edition_of a.w in
    c.rebuild_own.ensures
    ∙ ap (λ (e : Edition). rebuild_own e a.n a.s.now a.table.now) c.numbered.ensures
    ∙ left_to (told_form a.w a.n) (rebuild_lines e (desk_of e a.s.now) a.n a.s.now a.table.now)
    (rebuild_done e a.n a.s.now)
    (rebuild_not a.table.now) _ c.told.ensures (said_ok _ _ c.in_ok-told.was)

pub rebuild_own-requires : goal.rebuild_own-requires
rebuild_own-requires c = subst IsEdition (sym c.numbered.ensures) (is_edition _)
