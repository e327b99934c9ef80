-- `run_sheet` meets its contract: the edition handed down is the first. Assumes nothing.
use mathlib.Core.Path.{sym, ap, ◌∙◌, subst}
use Rattle.sheets.specs.declared.kinds.Edition.{Edition}
use Rattle.sheets.specs.Edition.{IsEdition}
use Rattle.sheets.proofs.Keeping.{first_edition_lem}
use Rattle.running.specs.RunSheet.{run_own}
use Rattle.running.proofs.run_sheet.run_sheet.Goals as goal

pub returns : goal.returns
returns c =
    let a = c.args in
    c.run_own.ensures ∙ ap (λ (e : Edition). run_own e a.n a.s.now a.x) c.first.ensures

pub run_own-requires : goal.run_own-requires
run_own-requires c = subst IsEdition (sym c.first.ensures) first_edition_lem
