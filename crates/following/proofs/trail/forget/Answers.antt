-- The loop keeps what is forgotten so far. Assumes nothing.
use native.Mathlib.Omega.{arith}
use Rattle.following.proofs.Trailing.{in_room, forgot_more}
use Rattle.following.proofs.trail.forget.Goals as goal

pub bounds-work-v : goal.bounds-work-v
bounds-work-v c =
    omega (arith, c.four_at-v.ensures.0, in_room c.args.from c.args.set c.loop-e.e c.args.work.now c.loop-e.work c.requires.0 (omega arith) c.requires.1 c.loop-e.invariant)

pub loop-e-preserved : goal.loop-e-preserved
loop-e-preserved c =
    forgot_more c.args.from c.args.set c.loop-e.e c.args.work.now c.loop-e.work c.requires.0 (omega arith) c.requires.1 c.loop-e.invariant c.four_at-v.ensures.0
