-- `&` with the pattern keeps the assignments where input j is 1. Assumes nothing.
use mathlib.Core.Path.{ap, ◌∙◌}
use mathlib.Core.Bool.{Bool, ◌&&◌}
use Rattle.bits.specs.Numbers.{bit}
use Rattle.bits.proofs.Machine.{bit-and}
use Rattle.bits.proofs.Inputs.{pattern-bit}
use Rattle.bits.proofs.patterns.upper.Goals as goal

pub returns : goal.returns
returns c =
    let g = c.args in
    λ x h. bit-and g.table c.of_input.result x
    ∙ ap (λ (t : Bool). bit g.table x && t) (pattern-bit g.j c.of_input.result x h c.of_input.ensures)
