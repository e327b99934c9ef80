-- `write_formula` meets its contract: the edition handed down is the first, and the desk the sheet's own. Assumes
-- nothing.
use mathlib.Core.Path.{sym, ap, ◌∙◌, subst}
use Prim.Native.Nat.{ℕ}
use Rattle.sheets.specs.declared.kinds.Edition.{Edition}
use Rattle.sheets.specs.Edition.{IsEdition}
use Rattle.sheets.proofs.Keeping.{first_edition_lem}
use Rattle.printing.specs.WriteFormula.{write_outcome, write_own}
use Rattle.printing.proofs.write_formula.write_formula.Goals as goal

pub write_in-requires : goal.write_in-requires
write_in-requires c = subst IsEdition (sym c.first-e.ensures) first_edition_lem

pub returns : goal.returns
returns c =
    let a = c.args in
    c.write_in.ensures
    ∙ ap (λ (d : ℕ). write_outcome c.first-e.result d a.n a.s.now a.room.now) c.desk_of.ensures
    ∙ ap (λ (e : Edition). write_own e a.n a.s.now a.room.now) c.first-e.ensures

pub desk_of-requires : goal.desk_of-requires
desk_of-requires c = subst IsEdition (sym c.first-e.ensures) first_edition_lem
