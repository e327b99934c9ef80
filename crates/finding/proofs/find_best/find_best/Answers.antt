-- `find_best` meets its contract: the edition handed down is the first. Assumes nothing.
use mathlib.Core.Path.{sym, ap, ◌∙◌, subst}
use Rattle.sheets.specs.declared.kinds.Edition.{Edition}
use Rattle.sheets.specs.Edition.{IsEdition}
use Rattle.sheets.proofs.Keeping.{first_edition_lem}
use Rattle.finding.specs.FindBest.{find_outcome}
use Rattle.finding.proofs.find_best.find_best.Goals as goal

pub find_in-requires : goal.find_in-requires
find_in-requires c = subst IsEdition (sym c.first.ensures) first_edition_lem

pub returns : goal.returns
returns c =
    let a = c.args in
    c.find_in.ensures ∙ ap (λ (e : Edition). find_outcome e a.n a.k a.t.now a.work.now)
    c.first.ensures
