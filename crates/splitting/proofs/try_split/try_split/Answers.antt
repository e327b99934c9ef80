-- `try_split` meets its contract: the edition handed down is the first. Assumes nothing.
use mathlib.Core.Path.{sym, ap, ◌∙◌, subst}
use Rattle.sheets.specs.declared.kinds.Edition.{Edition}
use Rattle.sheets.specs.Edition.{IsEdition}
use Rattle.sheets.proofs.Keeping.{first_edition_lem}
use Rattle.splitting.specs.TrySplit.{try_outcome}
use Rattle.splitting.proofs.try_split.try_split.Goals as goal

pub try_in-requires : goal.try_in-requires
try_in-requires c = subst IsEdition (sym c.first.ensures) first_edition_lem

pub returns : goal.returns
returns c =
    let a = c.args in
    c.try_in.ensures ∙ ap (λ (e : Edition). try_outcome e a.n a.k 1 a.own a.shared a.t.now
    a.room.now) c.first.ensures
