use Rattle.known.specs.Notes.{Adds}
use Rattle.known.proofs.needed.needed.Given as goal

abbrev pub invariant-loop-x : goal.invariant-loop-x
invariant-loop-x l = Adds l.pairs l.acc l.j l.need l.more

abbrev pub decreases-loop-x : goal.decreases-loop-x
decreases-loop-x l = l.x
