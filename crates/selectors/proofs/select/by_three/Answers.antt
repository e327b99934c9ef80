-- The cells are put on the sheet in turn. Assumes nothing.
use mathlib.Core.Path.{refl, ◌∙◌}
use native.Mathlib.Omega.{arith}
use Rattle.sheets.specs.Held.{cells_of}
use Rattle.selectors.proofs.Piles.{one_more, three_more}
use Rattle.selectors.proofs.select.by_three.Goals as goal

pub returns : goal.returns
returns c =
    let a = c.args in (
      one_more c.with_cell.ensures (one_more c.with_cell-two.ensures (one_more c.with_cell-one.ensures refl
          c.two_cell.ensures) c.two_cell-2.ensures) c.two_cell-3.ensures
          ∙ three_more (cells_of a.sheet) _ _ _,
      omega (arith, c.with_cell.ensures.count, c.with_cell-two.ensures.count, c.with_cell-one.ensures.count),
    )
