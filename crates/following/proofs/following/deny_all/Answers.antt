-- The loop keeps how far the literals so far have come. Assumes nothing.
use native.Mathlib.Omega.{arith}
use Prim.Native.Nat.{◌+◌}
use lib.ListN.{length}
use Rattle.clauses.specs.Step.{literal_at}
use Rattle.following.proofs.Going.{none-denied, denied-step, denied_done}
use Rattle.following.proofs.following.deny_all.Goals as goal

pub loop-k-init : goal.loop-k-init
loop-k-init c =
    (omega arith, none-denied c.args.all (c.args.all + length c.args.c.now) c.args.work.now (literal_at c.args.c.now c.args.at) c.requires.2)

pub returns-then-r : goal.returns-then-r
returns-then-r c =
    (omega arith, denied_done (literal_at c.args.c.now c.args.at) c.loop-k.k c.args.many c.loop-k.invariant.1 c.if-r.true (omega arith))

pub loop-k-preserved : goal.loop-k-preserved
loop-k-preserved c =
    (omega (arith, c.deny-r.ensures.0, c.loop-k.invariant.0), denied-step (literal_at c.args.c.now c.args.at) c.loop-k.k c.loop-k.invariant.1 c.if-r.false c.four_at.ensures.0 (c.deny-r.ensures.1 c.args.all c.loop-k.invariant.1.values (omega arith) (omega (arith, c.four_at.ensures.0, c.requires.1.below c.loop-k.k (omega (arith, c.requires.0)))) c.loop-k.invariant.1.trailed))
