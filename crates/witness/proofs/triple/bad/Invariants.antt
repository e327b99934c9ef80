use Rattle.bits.proofs.Walking.{Walked}
use Rattle.witness.proofs.triple.bad.Given as goal

abbrev pub invariant-loop-v : goal.invariant-loop-v
invariant-loop-v l = Walked l.n l.high l.many l.x l._v
