-- Below r there is a first cell, from r up there is none. Assumes nothing.
use mathlib.Core.Path.{◌≡◌, sym, ap, ◌∙◌, subst}
use mathlib.Core.Bool.{Bool, true, cond}
use Prim.Native.Nat.{ℕ, ◌*◌, ◌%◌, ◌^◌}
use native.Mathlib.Omega.{arith}
use lib.Pow.{pow_mono}
use borrow.Author.Tests.{lt-ltb, le-ltb}
use Rattle.bits.specs.Numbers.{bit}
use Rattle.bits.proofs.Machine.{shl_one}
use Rattle.tables.specs.Table.{table_bit}
use Rattle.splits.specs.Columns.{most_first, few_columns}
use Rattle.tables.specs.declared.cell.CellTable.{CellTable}
use Rattle.tables.specs.Cells.{no_table}
use Rattle.charts.specs.Cells.{held_d}
use Rattle.columns.specs.Reading.{Chart}
use Rattle.charts.proofs.pair.table_or_zero.Lts as lts
use Rattle.charts.proofs.pair.table_or_zero.Reads as reads
use Rattle.charts.proofs.pair.table_or_zero.Tie as tie
use Rattle.charts.proofs.pair.table_or_zero.Goals as goal

-- what is returned, as there is such a cell or not
module _ (c : lts.Start tie.the-claims reads.Pre reads.Post tie.handed_clauses) where
  abbrev by : Bool → CellTable
  by b = cond b (held_d c.args.s.n (table_bit c.args.t.now) (bit c.args.s.own) (bit c.args.s.shared)
      c.args.which) no_table

pub returns-then-r-which : goal.returns-then-r-which
returns-then-r-which c =
    c.zero.ensures ∙ sym (ap (by c.before.before.before.before.before) (le-ltb c.args.which c.args.r c.if-r-which.true))

pub table_of-requires : goal.table_of-requires
table_of-requires c =
    let s = c.args.s in
    let F = table_bit c.args.t.now in
    let p = c.requires.n_bound in
    let e : 2 ^ c.args.r ≡ 1 * 2 ^ c.args.r % 2 ^ 64 = sym (shl_one 64 c.args.r (omega (arith, p.1))) in record { n_bound = (p.0, omega (arith, e, pow_mono {i = c.args.r} {j = most_first} p.1)); chart = (subst (λ (m : ℕ). Chart s F m c.args.seen.now) e c.requires.chart, omega (arith, p.1, c.if-r-which.false)); limit_value = subst (λ (m : ℕ). few_columns s.n F (bit s.own) (bit s.shared) m ≡ true) e c.requires.r_value }

pub returns : goal.returns
returns c =
    c.table_of.ensures ∙ sym (ap (by c.before.before.before.before.before) (lt-ltb c.args.which c.args.r (omega (arith, c.if-r-which.false))))
