-- Each input in the mask was ruled out. Assumes nothing.
use Rattle.std.proofs.Common.{arith}
use Rattle.witness.proofs.Corners.{places_off}
use Rattle.known.proofs.pairs.bad_inputs.Goals as goal

pub with_bad-mask-requires-clause-wide : goal.with_bad-mask-requires-clause-wide
with_bad-mask-requires-clause-wide c =
    let w = places_off c.args.i c.args.j _ _ c.off.ensures c.off-2.ensures in
    (c.requires.0, c.requires.1, c.requires.2, omega arith, w.0, w.1)
