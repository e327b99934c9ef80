-- The loop keeps that the sheet holds the cells of the first parts. Assumes nothing.
use mathlib.Core.Path.{◌≡◌, sym, ap, ◌∙◌}
use Prim.Native.Nat.{ℕ, ◌+◌, ◌^◌}
use native.Mathlib.Nat.{add-mul, one-mul, mul-le-mul_right}
use native.Mathlib.Omega.{arith}
use lib.Pow.{pow_mono}
use Rattle.bits.specs.Lists.{list_of}
use Rattle.bits.proofs.Lists.{list_more}
use Rattle.tables.specs.Cells.{table_number}
use Rattle.tables.proofs.CellTables.{words_joined}
use Rattle.chains.specs.Chain.{last_cell}
use Rattle.making.specs.Stage.{signals_of}
use Rattle.selectors.specs.Standing.{part_bit, part_cell}
use Rattle.selectors.proofs.Piles.{one_more}
use Rattle.selectors.proofs.cofactor.cofactor_cells.Goals as goal

pub loop-v-init : goal.loop-v-init
unfolding list_of
loop-v-init c = (c.empty-sheet.ensures.1, ap (λ s. s.count) c.empty-sheet.ensures.0)

pub part_table-requires : goal.part_table-requires
part_table-requires c =
    let q = c.loop-v in
    let a = c.args in (
      c.requires.0,
      omega (arith, c.requires.1, add-mul q.v 1 (2 ^ a.k), one-mul (2 ^ a.k), mul-le-mul_right {m = q.v + 1} {n = a.many} (2 ^ a.k) (omega arith)),
      c.requires.2,
    )

pub cell-requires : goal.cell-requires
cell-requires c = omega (arith, c.requires.3, c.requires.0)

pub with_cell-sheet-requires : goal.with_cell-sheet-requires
with_cell-sheet-requires c =
    let q = c.loop-v in
    omega (arith, q.invariant.1, c.requires.4)

pub loop-v-preserved : goal.loop-v-preserved
loop-v-preserved c =
    let q = c.loop-v in
    let a = c.args in
    let f = part_cell (signals_of a.read) a.t.now a.k in (
      one_more c.with_cell-sheet.ensures q.invariant.0
          (c.cell.ensures.0 ∙ ap (last_cell (signals_of a.read))
          (ap table_number c.part_table.ensures
          ∙ words_joined 4 a.k (part_bit a.t.now a.k q.v) (pow_mono {i = a.k} {j = 8} c.requires.0)))
          ∙ sym (list_more q.v f),
      omega (arith, c.with_cell-sheet.ensures.count, q.invariant.1),
    )

pub returns : goal.returns
returns c =
    let q = c.loop-v in
    let a = c.args in
    let e : q.v ≡ a.many = omega arith in (
      q.invariant.0 ∙ ap (λ (m : ℕ). list_of m (part_cell (signals_of a.read) a.t.now a.k)) e,
      omega (arith, q.invariant.1),
    )
