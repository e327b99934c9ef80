-- `keep_shorter` meets its contract: the edition handed down is the first. Assumes nothing.
use mathlib.Core.Path.{sym, ap, ◌∙◌, subst}
use Rattle.sheets.specs.declared.kinds.Edition.{Edition}
use Rattle.sheets.specs.Edition.{IsEdition}
use Rattle.sheets.proofs.Keeping.{first_edition_lem}
use Rattle.comparing.specs.Shorter.{kept_outcome}
use Rattle.comparing.proofs.shorter.keep_shorter.Goals as goal

pub returns : goal.returns
returns c =
    let a = c.args in
    c.keep_in.ensures
    ∙ ap (λ (e : Edition). kept_outcome e a.n a.t.now a.first.now a.second.now)
    c.first.ensures

pub keep_in-requires : goal.keep_in-requires
keep_in-requires c = subst IsEdition (sym c.first.ensures) first_edition_lem
