-- The signals picked by own + shared are those of A and B, and each table handed back is that of its first cell.
-- Assumes nothing.
use mathlib.Core.Path.{◌≡◌, ap, ap₂, ◌∙◌}
use mathlib.Core.Bool.{Bool, cond}
use mathlib.Core.List.{List}
use Prim.Native.Nat.{ℕ, zero, suc, ◌+◌, ◌<◌, ◌≤◌}
use native.Mathlib.Omega.{arith}
use lib.Dec.{ltb}
use lib.Pow.{pow_mono}
use borrow.Author.Tests.{lt-ltb}
use Rattle.bits.specs.Numbers.{bit}
use Rattle.bits.specs.Sets.{size}
use Rattle.bits.proofs.Lists.{list_ext}
use Rattle.bits.proofs.Masks.{mask_lt}
use Rattle.tables.specs.Table.{table_bit}
use Rattle.tables.specs.Cells.{table_number, no_table}
use Rattle.charts.specs.declared.pair.FirstCells.{FirstCells}
use Rattle.splits.specs.Columns.{most_first}
use Rattle.splits.specs.Split.{reads_d}
use Rattle.splits.specs.Pair.{table_d}
use Rattle.charts.specs.Cells.{held_d, first_cells, table_in}
use Rattle.columns.proofs.Reading.{held, below_mask}
use Rattle.splits.proofs.Respect.{reads-D}
use Rattle.charts.proofs.HeldCells.{table-D}
use Rattle.chains.specs.Chain.{last_cell}
use Rattle.making.specs.Stage.{signals_of}
use Rattle.making.specs.Chaining.{d_cell}
use Rattle.making.proofs.Picking.{picked_set, picked_count}
use Rattle.making.proofs.Piling.{grown_same}
use Rattle.making.proofs.chaining.pile_first.Goals as goal

pub overflow_add-s : goal.overflow_add-s
overflow_add-s c =
    let s = c.args.s in
    omega (
      arith,
      mask_lt s.n (reads_d (bit s.own) (bit s.shared)) (s.own + s.shared) (below_mask s (held s)),
      pow_mono {i = s.n} {j = 16} s.most,
    )

pub with_first-requires : goal.with_first-requires
with_first-requires c =
    let s = c.args.s in
    let h = held s in
    let S = reads_d (bit s.own) (bit s.shared) in (
      c.requires.room.0,
      c.requires.n_value.2,
      c.requires.n_value.3,
      omega (
        arith,
        c.requires.n_value.4.most,
        reads-D s.n (bit s.own) (bit s.shared) h.apart,
        picked_count s.n (s.own + s.shared) S (below_mask s h) c.args.signals.count c.requires.n_value.0
            (signals_of c.args.signals)
            c.pick-read.result c.pick-read.ensures,
      ),
    )

-- table t of r that were handed back
module _ (n : ℕ) (F : ℕ → Bool) (A B : ℕ → Bool) (r : ℕ) (small : size n (reads_d A B) ≤ 8) (most : r ≤ most_first) where
  at : (t : ℕ) → t < r → table_number (cond (ltb t r) (held_d n F A B t) no_table) ≡ table_d n F A B t
  at t h = ap (λ (b : Bool). table_number (cond b (held_d n F A B t) no_table)) (lt-ltb t r h) ∙ table-D n F A B t small

  table_is : (t : ℕ) → t < r → table_in (first_cells n F A B r) t ≡ table_d n F A B t
  table_is zero h = at 0 h
  table_is (suc zero) h = at 1 h
  table_is (suc (suc zero)) h = at 2 h
  table_is (suc (suc (suc t))) h = absurd (omega arith)

pub returns : goal.returns
returns c =
    let a = c.args in
    let s = a.s in
    let h = held s in
    let A = bit s.own in
    let B = bit s.shared in
    let F = table_bit a.t.now in
    let signals = picked_set s.n (s.own + s.shared) (reads_d A B) (below_mask s h) a.signals.count
    c.requires.n_value.0 (signals_of a.signals)
    c.pick-read.result c.pick-read.ensures in
    grown_same (list_ext a.r (λ t. last_cell (signals_of c.pick-read.result) (table_in c.first_cells-tables.result t))
    (d_cell s F (signals_of a.signals)) (λ t l.
    ap₂ (λ (x : List ℕ) (T : ℕ). record { signals = x; table = T }) signals
    (ap (λ (d : FirstCells). table_in d t) c.first_cells-tables.ensures
    ∙ table_is s.n F A B a.r (omega (arith, c.requires.n_value.4.most, reads-D s.n A B h.apart)) c.requires.n_value.3 t
    l)))
    c.with_first.ensures
