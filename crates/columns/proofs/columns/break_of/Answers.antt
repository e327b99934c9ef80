-- Where none breaks nothing is told, else the first that does and its columns. Assumes nothing.
use native.Mathlib.Omega.{arith}
use mathlib.Core.Path.{sym, ◌∙◌}
use Rattle.bits.specs.Numbers.{bit}
use Rattle.tables.specs.Table.{table_bit}
use Rattle.columns.proofs.Breaking.{break_some, break_none}
use Rattle.columns.proofs.Places.{below_of_some}
use Rattle.columns.proofs.columns.break_of.Goals as goal

pub returns-in_err-b : goal.returns-in_err-b
returns-in_err-b c =
    let a = c.args in
    c.from_residual.ensures
    ∙ break_none a.s.n (table_bit a.t.now) (bit a.s.own) (bit a.s.shared) a.limit c.first_broken.ensures c.in_err-b.was

pub columns_at-requires : goal.columns_at-requires
columns_at-requires c =
    let w = below_of_some (sym c.first_broken.ensures ∙ c.in_ok-b.was) in
    record {
      own_bound = (c.requires.own_bound, c.requires.limit_bound.1);
      b_bound = omega (arith, w.0, w.1);
    }

pub returns : goal.returns
returns c =
    let a = c.args in
    break_some a.s.n (table_bit a.t.now) (bit a.s.own) (bit a.s.shared) a.limit c.first_broken.ensures c.in_ok-b.was
    c.columns_at.ensures
