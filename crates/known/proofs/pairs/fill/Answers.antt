-- Each turn puts one true mask into the table. Assumes nothing.
use Rattle.std.proofs.Common.{arith}
use Rattle.known.proofs.Keeping.{pairs_more}
use Rattle.known.proofs.pairs.fill.Goals as goal

pub loop-j-preserved : goal.loop-j-preserved
loop-j-preserved c =
    pairs_more _ c.loop-i.i c.loop-j.j _ (omega (arith, c.requires.0.most)) (omega (arith, c.requires.0.most))
    c.loop-j.invariant c.bad_inputs.ensures
