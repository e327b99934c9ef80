-- `zeros` meets its contract: every place is zero. Assumes nothing.
use Rattle.std.proofs.Common.{refl}
use lib.Ieee.{of_bits}
use Rattle.times.proofs.signals.SignalTimes.zeros.Goals as goal

pub returns : goal.returns
unfolding of_bits
returns c = refl
