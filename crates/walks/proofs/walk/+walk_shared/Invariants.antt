-- The position falls.
use Rattle.walks.proofs.walk.+walk_shared.Given as goal

abbrev pub decreases-walk_shared : goal.decreases-walk_shared
decreases-walk_shared l = l.p
