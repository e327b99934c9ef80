-- The test holds where none breaks. Assumes nothing.
use Rattle.bits.specs.Numbers.{bit}
use Rattle.tables.specs.Table.{table_bit}
use Rattle.columns.proofs.Breaking.{few_by}
use Rattle.columns.proofs.columns.few_columns.Goals as goal

pub returns : goal.returns
returns c =
    let a = c.args in
    few_by a.s.n (table_bit a.t.now) (bit a.s.own) (bit a.s.shared) a.limit c.first_broken.ensures c.is_none.ensures
