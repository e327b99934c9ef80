-- `rebuild_table` meets its contract: the edition handed down is the first. Assumes nothing.
use mathlib.Core.Path.{sym, ap, ◌∙◌, subst}
use Rattle.sheets.specs.declared.kinds.Edition.{Edition}
use Rattle.sheets.specs.Edition.{IsEdition}
use Rattle.sheets.proofs.Keeping.{first_edition_lem}
use Rattle.rebuilding.specs.RebuildTable.{rebuild_own}
use Rattle.rebuilding.proofs.rebuild_table.rebuild_table.Goals as goal

pub returns : goal.returns
returns c =
    let a = c.args in
    c.rebuild_own.ensures ∙ ap (λ (e : Edition). rebuild_own e a.n a.s.now a.table.now) c.first.ensures

pub rebuild_own-requires : goal.rebuild_own-requires
rebuild_own-requires c = subst IsEdition (sym c.first.ensures) first_edition_lem
