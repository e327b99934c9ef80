-- The table's number is its one word. Assumes nothing.
use mathlib.Core.Path.{ap}
use Prim.Native.Nat.{◌<◌}
use native.Mathlib.Omega.{arith}
use Rattle.selectors.specs.Standing.{word_cell}
use Rattle.selectors.proofs.Cells.{one_word}
use Rattle.selectors.proofs.select.word_cell.Goals as goal

pub returns : goal.returns
returns c =
    let h : c.args.table < 18446744073709551616 = omega arith in
    ap (word_cell c.args.k c.args.signals) (one_word c.args.table h)
