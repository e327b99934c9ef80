-- The position falls.
use Rattle.walks.proofs.walk.+walk_own.Given as goal

abbrev pub decreases-walk_own : goal.decreases-walk_own
decreases-walk_own l = l.p
