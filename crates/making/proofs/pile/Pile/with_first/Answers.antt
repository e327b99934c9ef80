-- The cells are put on the pile in turn. Assumes nothing.
use mathlib.Core.Path.{◌≡◌, refl, sym, ap, ◌∙◌}
use mathlib.Core.List.{[], ◌∷◌, ◌++◌}
use Prim.Native.Nat.{ℕ, zero, suc, ◌<◌}
use native.Mathlib.Omega.{arith}
use lib.ListN.{get_or}
use Rattle.bits.specs.Lists.{list_of}
use Rattle.bits.proofs.Lists.{list_more, length-list}
use Rattle.charts.specs.declared.pair.FirstCells.{FirstCells}
use Rattle.charts.specs.Cells.{table_in}
use Rattle.tables.specs.Cells.{table_number}
use Rattle.sheets.specs.Network.{Cell}
use Rattle.chains.specs.Chain.{last_cell}
use Rattle.making.specs.Stage.{signals_of}
use Rattle.making.proofs.Piling.{grown_none, grown_same, grown_then}
use Rattle.making.proofs.pile.Pile.with_first.Invariants.{cell_of}
use Rattle.making.proofs.pile.Pile.with_first.Goals as goal

-- table t of the three
table_at : (d : FirstCells) (t : ℕ) → t < 3
    → table_number (get_or (d.first ∷ d.second ∷ d.third ∷ []) t (record { words = [] })) ≡ table_in d t
table_at d zero h = refl
table_at d (suc zero) h = refl
table_at d (suc (suc zero)) h = refl
table_at d (suc (suc (suc t))) h = absurd (omega arith)

pub loop-t-init : goal.loop-t-init
unfolding list_of
loop-t-init c = grown_none c.args.self

pub with_cell-pile-requires : goal.with_cell-pile-requires
with_cell-pile-requires c =
    let i = c.loop-t.invariant in
    omega (arith, i.count, length-list c.loop-t.t (cell_of c.args.read c.args.d), c.requires.0)

pub bounds-tables-t : goal.bounds-tables-t
bounds-tables-t c = omega (arith, c.requires.2)

pub loop-t-preserved : goal.loop-t-preserved
loop-t-preserved c =
    let a = c.args in
    let t = c.loop-t.t in
    let f = cell_of a.read a.d in
    grown_same (ap (λ (x : Cell). list_of t f ++ (x ∷ [])) (c.cell.ensures.0 ∙ ap (last_cell (signals_of a.read))
    (table_at a.d t (omega (arith, c.requires.2))))
    ∙ sym (list_more t f))
    (grown_then c.loop-t.invariant c.with_cell-pile.ensures)

pub returns : goal.returns
returns c =
    let a = c.args in
    let e : c.loop-t.t ≡ a.r = omega arith in
    grown_same (ap (λ (k : ℕ). list_of k (cell_of a.read a.d)) e) c.loop-t.invariant
