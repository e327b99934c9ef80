-- `is_empty` meets its contract: kind 0 and no literal. Assumes nothing.
use native.Mathlib.Omega.{arith}
use Rattle.refuting.proofs.Lengths.{derived_length}
use Rattle.refuting.proofs.steps.is_empty.Goals as goal

pub two_at-requires : goal.two_at-requires
two_at-requires c =
    omega (arith, derived_length c.args.c.now c.args.at c.if-c-at-eq0.true, c.requires.there)
