-- Where s has 1 the second part is left, where it has 0 the first. Assumes nothing.
use native.Mathlib.Omega.{arith}
use Rattle.bits.proofs.Inputs.{choose_is}
use Rattle.bits.proofs.patterns.choose.Goals as goal

pub returns : goal.returns
returns c =
    let a = c.args in
    choose_is a.s a.zero a.one (omega arith) (omega arith) (omega arith)
