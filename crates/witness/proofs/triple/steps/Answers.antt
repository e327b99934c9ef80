-- The positions from 6 on, without those of a mask. Assumes nothing.
use Rattle.std.proofs.Common.{lt_of_lt_of_le, arith, pow_mono}
use Rattle.bits.proofs.Machine.{shl_one}
use Rattle.witness.proofs.Corners.{steps_are}
use Rattle.witness.proofs.triple.steps.Goals as goal

pub overflow_sub-result : goal.overflow_sub-result
overflow_sub-result c =
    omega (
      arith,
      shl_one 32 c.args.n (omega (arith, c.requires.1)),
      pow_mono {i = 6} {j = c.args.n}
          c.requires.0,
    )

pub overflow_cast-result : goal.overflow_cast-result
overflow_cast-result c =
    record {
      fits =
          lt_of_lt_of_le (steps_are c.args.n c.args.own _ c.requires.0 c.requires.1 (omega arith)
          (shl_one 32 c.args.n (omega (arith, c.requires.1)))).below
          (pow_mono {i = c.args.n} {j = 16} c.requires.1);
    }

pub returns : goal.returns
returns c =
    steps_are c.args.n c.args.own _ c.requires.0 c.requires.1 (omega arith)
    (shl_one 32 c.args.n (omega (arith, c.requires.1)))
