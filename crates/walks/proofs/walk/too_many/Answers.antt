-- `walks::walk::too_many` meets its contract: the count of ones is the size. Assumes nothing.
use Rattle.std.proofs.Common.{arith, ltb-true}
use Rattle.walks.proofs.walk.too_many.Goals as goal

pub returns-then-left-ne0 : goal.returns-then-left-ne0
returns-then-left-ne0 c e =
    let a = c.args in omega (arith, c.members.ensures 16 (omega arith), ltb-true a.room c.members.result e)
