-- Assumes nothing.
use Rattle.bits.proofs.Machine.{test_bit}
use Rattle.turning.proofs.ways.bit_of.Goals as goal

pub returns : goal.returns
returns c = test_bit c.args.x c.args.j
