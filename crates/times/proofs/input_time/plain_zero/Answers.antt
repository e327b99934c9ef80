-- `plain_zero` meets its contract: what equals zero is zero, with either sign. Assumes nothing.
use Rattle.times.proofs.Zero.{zero_test, other_test}
use Rattle.times.proofs.input_time.plain_zero.Goals as goal

pub returns-then-x : goal.returns-then-x
returns-then-x c = zero_test _ c.if-x.true

pub returns-else-x : goal.returns-else-x
returns-else-x c = other_test _ c.if-x.false
