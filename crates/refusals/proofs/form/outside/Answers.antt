-- `outside` meets its contract: a number is outside if it is below the least or above the most. Assumes nothing.
use mathlib.Core.Path.{sym, ◌∙◌}
use borrow.Author.Tests.{lt-ltb}
use Rattle.refusals.proofs.Tests.{under, over}
use Rattle.refusals.proofs.form.outside.Goals as goal

pub returns-then-x-low : goal.returns-then-x-low
returns-then-x-low c = let a = c.args in lt-ltb a.x a.low c.if-x-low.true ∙ sym (under a.low a.x a.high c.if-x-low.true)

pub returns-else-x-low : goal.returns-else-x-low
returns-else-x-low c = let a = c.args in sym (over a.low a.x a.high c.if-x-low.false)
