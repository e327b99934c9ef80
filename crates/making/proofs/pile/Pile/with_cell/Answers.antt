-- The sheet takes the cell as long as it has room. Assumes nothing.
use mathlib.Core.Path.{refl, sym, subst}
use native.Mathlib.Omega.{arith}
use Rattle.sheets.specs.Held.{Appended}
use Rattle.making.proofs.Piling.{grown_full, grown_one}
use Rattle.making.proofs.pile.Pile.with_cell.Goals as goal
use Rattle.making.proofs.pile.Pile.with_cell.Goals.{then-self-lt-RECORDS, else-self-lt-RECORDS}

pub with_cell-sheet-requires : goal.with_cell-sheet-requires
with_cell-sheet-requires c = omega (arith, c.args.self.within, c.if-self-lt-RECORDS.true)

pub returns : goal.returns
returns c =
    let p = c.args.self in
    elim c.if-self-lt-RECORDS.branch [
      | then-self-lt-RECORDS u ↦ grown_one p c.args.c _
          (subst (Appended p.sheet c.args.c) (sym u.sheet-is) u.with_cell-sheet.ensures) refl
      | else-self-lt-RECORDS u ↦ grown_full p c.args.c _ (omega (arith, u.if-self-lt-RECORDS.false)) refl
    ]
