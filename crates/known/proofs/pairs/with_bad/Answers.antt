-- `known::pairs::with_bad` meets its contract: what the triple rules out joins the mask. Assumes nothing.
use Rattle.std.proofs.Common.{arith}
use Rattle.bits.proofs.Machine.{shl_one}
use Rattle.best.specs.Moves.{both}
use Rattle.known.proofs.Keeping.{needs_or, needs_power}
use Rattle.known.proofs.pairs.with_bad.Goals as goal

pub returns-then-bad : goal.returns-then-bad
returns-then-bad c =
    let a = c.args in
    needs_or (both a.i a.j) _ _ c.requires.needs
    (needs_power (both a.i a.j) a.c _ (shl_one 16 a.c (omega (arith, c.requires.wide.0.most, c.requires.wide.3)))
    (c.bad.ensures c.if-bad.true))
