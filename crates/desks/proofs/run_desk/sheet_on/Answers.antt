-- `sheet_on` meets its contract: a desk is no longer than 16 records. Assumes nothing.
use mathlib.Core.Path.{sym}
use Prim.Native.Nat.{◌*◌}
use native.Mathlib.Omega.{arith}
use lib.Seq.{take_all, length-take-le}
use Rattle.sheets.specs.Edition.{record_size}
use Rattle.cards.specs.Card.{count_on}
use Rattle.desks.proofs.run_desk.sheet_on.Goals as goal

pub returns-then-m-gt-RECORDS : goal.returns-then-m-gt-RECORDS
returns-then-m-gt-RECORDS c =
    let o = c.args.o.now in sym (take_all (record_size * count_on o) o (omega arith))

pub slice_bounds-result-end : goal.slice_bounds-result-end
slice_bounds-result-end c =
    let o = c.args.o.now in sym (length-take-le (record_size * count_on o) o (omega arith))

pub overflow_cast-m : goal.overflow_cast-m
overflow_cast-m c = omega (arith, c.type_inv.o 242)
