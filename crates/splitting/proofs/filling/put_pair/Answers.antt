-- `put_pair` meets its contract: the chart has room for the columns of every shared assignment. Assumes nothing.
use mathlib.Core.Path.{◌≡◌, subst}
use mathlib.Core.Bool.{true}
use Prim.Native.Nat.{ℕ}
use native.Mathlib.Omega.{arith}
use lib.Pow.{pow_mono}
use Rattle.bits.specs.Numbers.{bit}
use Rattle.tables.specs.Table.{table_bit}
use Rattle.splits.specs.Columns.{most_first, few_columns}
use Rattle.charts.proofs.Charting.{chart-room, power, charted}
use Rattle.splitting.proofs.filling.put_pair.Goals as goal

pub chart-requires : goal.chart-requires
chart-requires c =
    let s = c.args.s in
    let p = c.requires.n_bound in
    let b = c.blank-seen.ensures in
    let e = power p.2 in record {
      limit_bound = (omega (arith, e, pow_mono {i = c.args.r} {j = most_first} p.2), p.0);
      shared_in_bounds = (omega (arith, b.0, chart-room p.1 e), b.1);
      limit_value = subst (λ (m : ℕ). few_columns s.n (table_bit c.args.t.now) (bit s.own) (bit s.shared) m ≡ true) e
          c.requires.r_value;
    }

pub store_h-requires : goal.store_h-requires
store_h-requires c =
    let p = c.requires.n_bound in
    record { n_bound = (p.0, charted p.2 c.chart.ensures, p.2, p.3, p.4); end_value = c.requires.end_value }

pub first_cells-requires : goal.first_cells-requires
first_cells-requires c =
    let p = c.requires.n_bound in
    record { n_bound = (p.0, p.2); chart = charted p.2 c.chart.ensures; r_value = c.requires.r_value }

pub returns : goal.returns
returns c = (c.first_cells.ensures, c.store_h.ensures)
