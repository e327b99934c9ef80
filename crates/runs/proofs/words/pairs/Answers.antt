-- `pairs` meets its contract. The loop's invariant: the words of the pairs passed. Assumes nothing.
use mathlib.Core.Path.{refl, ◌∙◌}
use native.Mathlib.Omega.{arith}
use Rattle.bits.proofs.Filling.{filled_more}
use Rattle.runs.proofs.Choosing.{pair_bit, lane_filled}
use Rattle.runs.proofs.words.pairs.Goals as goal

pub loop-h-preserved : goal.loop-h-preserved
loop-h-preserved c = filled_more c.loop-h.invariant (omega arith) (omega arith) refl

pub returns : goal.returns
returns c =
    λ h i l g.
    let a = c.args in
    lane_filled c.loop-h.invariant i h (omega arith) ∙ pair_bit a.t.now a.first h i (omega arith) g
