-- Half of the places, or all of them. Assumes nothing.
use Rattle.std.proofs.Common.{arith}
use Rattle.witness.proofs.Corners.{all_off, half-off}
use Rattle.witness.proofs.triple.off.Goals as goal

pub returns-then-j-lt6 : goal.returns-then-j-lt6
returns-then-j-lt6 c = half-off c.args.j _ c.of_input.ensures

pub returns-else-j-lt6 : goal.returns-else-j-lt6
returns-else-j-lt6 c = all_off c.args.j (omega (arith, c.if-j-lt6.false))
