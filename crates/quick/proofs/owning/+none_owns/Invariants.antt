-- The position falls in the cycle of calls {none_owns}. Assumes nothing.
use Rattle.quick.proofs.owning.+none_owns.Given as goal

abbrev pub decreases-none_owns : goal.decreases-none_owns
decreases-none_owns l = l.p
