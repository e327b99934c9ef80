-- `check_sheet` meets its contract: the edition handed down is the first. Assumes nothing.
use mathlib.Core.Path.{sym, ap, ◌∙◌, subst}
use Rattle.sheets.specs.declared.kinds.Edition.{Edition}
use Rattle.sheets.specs.Edition.{IsEdition}
use Rattle.sheets.proofs.Keeping.{first_edition_lem}
use Rattle.inspection.specs.CheckSheet.{check_own}
use Rattle.inspection.proofs.check_sheet.check_sheet.Goals as goal

pub returns : goal.returns
returns c =
    let a = c.args in
    c.check_own.ensures ∙ ap (λ (e : Edition). check_own e a.n a.t.now a.s.now) c.first.ensures

pub check_own-requires : goal.check_own-requires
check_own-requires c = subst IsEdition (sym c.first.ensures) first_edition_lem
