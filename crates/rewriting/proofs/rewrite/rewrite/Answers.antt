-- `rewrite` meets its contract: the editions handed down are the first and the second, and the desk the sheet's own.
-- Assumes nothing.
use mathlib.Core.Path.{sym, ap, ap₂, ◌∙◌, subst}
use Prim.Native.Nat.{ℕ}
use native.Mathlib.Omega.{arith}
use Rattle.sheets.specs.declared.kinds.Edition.{Edition}
use Rattle.sheets.specs.Edition.{IsEdition}
use Rattle.sheets.proofs.Keeping.{first_edition_lem, second_edition_lem}
use Rattle.rewriting.specs.Rewrite.{rewrite_outcome, rewrite_own}
use Rattle.rewriting.proofs.rewrite.rewrite.Goals as goal

pub rewrite_in-requires : goal.rewrite_in-requires
rewrite_in-requires c =
    let f = c.first-e.ensures in
    let s = c.second.ensures in (
      subst IsEdition (sym f) first_edition_lem,
      subst IsEdition (sym s) second_edition_lem,
      omega (arith, ap (λ (e : Edition). e.most) f, ap (λ (e : Edition). e.most) s),
    )

pub returns : goal.returns
returns c =
    let a = c.args in
    c.rewrite_in.ensures
    ∙ ap (λ (d : ℕ). rewrite_outcome c.first-e.result c.second.result d a.n a.s.now a.room.now)
    c.desk_of.ensures
    ∙ ap₂ (λ (e f : Edition). rewrite_own e f a.n a.s.now a.room.now) c.first-e.ensures c.second.ensures

pub desk_of-requires : goal.desk_of-requires
desk_of-requires c = subst IsEdition (sym c.first-e.ensures) first_edition_lem
