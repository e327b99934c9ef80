-- `halve` meets its contract. The loop's invariant: the places passed hold what was chosen, the others what they held.
-- Assumes nothing.
use mathlib.Core.Path.{ap₂, ◌∙◌}
use Prim.Native.Nat.{◌+◌}
use native.Mathlib.Omega.{arith}
use lib.ListN.{get_or}
use Rattle.bits.specs.Patterns.{chosen}
use Rattle.bits.proofs.Inputs.{chosen-bit}
use Rattle.bits.proofs.Filling.{filled_more}
use Rattle.runs.proofs.Choosing.{lane_filled}
use Rattle.runs.proofs.words.halve.Goals as goal

pub loop-h-preserved : goal.loop-h-preserved
loop-h-preserved c =
    let a = c.args in
    let f = c.loop-h.invariant in
    let h = c.loop-h.h in
    filled_more f (omega arith) (omega arith)
    (c.choose.ensures ∙ ap₂ (chosen a.s) (f.high h (omega arith)) (f.high (a.half + h) (omega arith)))

pub returns : goal.returns
returns c =
    λ h i l g.
    let a = c.args in
    lane_filled c.loop-h.invariant i h (omega arith)
    ∙ chosen-bit a.s (get_or a.v.now h 0) (get_or a.v.now (a.half + h) 0) i g
