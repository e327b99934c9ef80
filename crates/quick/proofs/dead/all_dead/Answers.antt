-- Every two inputs passed are dead. Assumes nothing.
use Rattle.std.proofs.Common.{arith, below_more}
use Rattle.quick.proofs.dead.all_dead.Goals as goal

pub loop-i-preserved : goal.loop-i-preserved
loop-i-preserved c =
    below_more _ _ c.loop-i.invariant (λ h j l. c.loop-j.invariant j (omega (arith, c.loop-j-test.false)))

pub loop-j-preserved : goal.loop-j-preserved
loop-j-preserved c = below_more _ _ c.loop-j.invariant (c.dead.ensures c.if-not-dead.false)
