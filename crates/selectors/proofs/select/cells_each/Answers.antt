-- By K. Assumes nothing.
use mathlib.Core.Path.{sym, ap}
use native.Mathlib.Omega.{arith}
use borrow.Author.Tests.{le-leb, lt-leb}
use Rattle.cofactors.specs.Cofactors.{cells_each}
use Rattle.selectors.proofs.select.cells_each.Goals as goal

pub returns-then-k-lt3 : goal.returns-then-k-lt3
returns-then-k-lt3 c =
    (sym (ap cells_each (lt-leb 3 c.args.k (omega arith))), omega arith, omega arith)

pub returns-else-k-lt3 : goal.returns-else-k-lt3
returns-else-k-lt3 c = (sym (ap cells_each (le-leb 3 c.args.k (omega arith))), omega arith, omega arith)
