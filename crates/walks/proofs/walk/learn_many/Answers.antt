-- What is kept was shown by many points. Assumes nothing.
use native.Mathlib.Omega.{arith}
use Rattle.bits.proofs.Machine.{shl_one}
use Rattle.witness.proofs.Points.{said_no}
use Rattle.walks.proofs.Learning.{learned_one}
use Rattle.walks.proofs.walk.learn_many.Goals as goal

pub returns-then-shared-eq0 : goal.returns-then-shared-eq0
returns-then-shared-eq0 c = (said_no, c.requires.known)

pub returns-in_default : goal.returns-in_default
returns-in_default c = (said_no, c.requires.known)

pub returns-then-not-many_somewhere : goal.returns-then-not-many_somewhere
returns-then-not-many_somewhere c = (said_no, c.requires.known)

pub returns : goal.returns
returns c =
    learned_one c.requires.known _ _ c.args.own c.args.shared _
    (shl_one 32 c.args.r (omega (arith, c.requires.known.first)))
    (c.many_somewhere.ensures (c.if-not-many_somewhere.false)) c.keep.ensures c.requires.own_bound.2
    c.meets.ensures
