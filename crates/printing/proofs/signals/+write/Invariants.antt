-- The number that falls is the signal.
use Rattle.printing.proofs.signals.+write.Given as goal

abbrev pub decreases-write : goal.decreases-write
decreases-write l = l.x
