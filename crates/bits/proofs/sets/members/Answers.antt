-- The language's count of ones is the size of the mask's set. Assumes nothing.
use Rattle.bits.proofs.Machine.{ones-size}
use Rattle.bits.proofs.sets.members.Goals as goal

pub returns : goal.returns
returns c = λ n h. ones-size n c.args.mask h
