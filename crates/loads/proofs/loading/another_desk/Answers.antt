-- `another_desk` meets its contract: only a sheet of a record or more says its desk. Assumes nothing.
use mathlib.Core.Path.{sym, ap}
use mathlib.Core.Bool.{Bool, not, ◌&&◌}
use native.Mathlib.Omega.{arith}
use lib.Dec.{eqb}
use lib.ListN.{length, get_or}
use borrow.Author.Tests.{le-leb, lt-leb}
use Rattle.sheets.specs.Edition.{record_size}
use Rattle.loads.proofs.loading.another_desk.Goals as goal

pub returns-then-s-lt-RECORD : goal.returns-then-s-lt-RECORD
returns-then-s-lt-RECORD c =
    let a = c.args in
    sym (ap (λ (t : Bool). t && not (eqb (get_or a.s.now 7 0) a.d))
    (lt-leb record_size (length a.s.now) c.if-s-lt-RECORD.true))

pub returns : goal.returns
returns c =
    let a = c.args in
    sym (ap (λ (t : Bool). t && not (eqb (get_or a.s.now 7 0) a.d))
    (le-leb record_size (length a.s.now) (omega arith)))

pub overflow_cast-result : goal.overflow_cast-result
overflow_cast-result c = omega (arith, c.type_inv.s 7)
