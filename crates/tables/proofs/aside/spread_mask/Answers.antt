-- Spread over n positions a mask stays one of n positions. Assumes nothing.
use native.Mathlib.Omega.{arith}
use lib.Pow.{pow_mono}
use Rattle.tables.specs.Table.{most_inputs}
use Rattle.tables.proofs.aside.spread_mask.Goals as goal

pub overflow_cast-result : goal.overflow_cast-result
overflow_cast-result c =
    omega (arith, c.spread_out.ensures.1, pow_mono {i = c.args.n} {j = most_inputs} c.requires)
