-- The turned pattern has 1 where input j is 0. Assumes nothing.
use Rattle.bits.proofs.Inputs.{pattern-off}
use Rattle.tables.proofs.counting.lower_half.Goals as goal

pub returns-then-j-lt6 : goal.returns-then-j-lt6
returns-then-j-lt6 c =
    (c.if-j-lt6.true, λ six i h. pattern-off c.args.j c.of_input.result i h c.of_input.ensures)
