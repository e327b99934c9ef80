-- `settle` meets its contract: the edition handed down is the first, and the desk the sheet's own. Assumes nothing.
use mathlib.Core.Path.{sym, ap, ◌∙◌, subst}
use Prim.Native.Nat.{ℕ}
use Rattle.sheets.specs.declared.kinds.Edition.{Edition}
use Rattle.sheets.specs.Edition.{IsEdition}
use Rattle.sheets.proofs.Keeping.{first_edition_lem}
use Rattle.settling.specs.Settle.{settle_outcome, settle_own}
use Rattle.settling.proofs.settle.settle.Goals as goal

pub returns : goal.returns
returns c =
    let a = c.args in
    c.settle_in.ensures
    ∙ ap (λ (d : ℕ). settle_outcome c.first-e.result d a.n a.s.now a.delay a.times)
    c.desk_of.ensures
    ∙ ap (λ (e : Edition). settle_own e a.n a.s.now a.delay a.times) c.first-e.ensures

pub desk_of-requires : goal.desk_of-requires
desk_of-requires c = subst IsEdition (sym c.first-e.ensures) first_edition_lem

pub settle_in-requires : goal.settle_in-requires
settle_in-requires c = subst IsEdition (sym c.first-e.ensures) first_edition_lem
