-- `&` with the turned pattern keeps the assignments where input j is 0. Assumes nothing.
use mathlib.Core.Path.{ap, ◌∙◌}
use mathlib.Core.Bool.{Bool, ◌&&◌}
use Prim.Native.Nat.{◌-◌}
use Rattle.bits.specs.Numbers.{bit}
use Rattle.bits.proofs.Machine.{bit-and}
use Rattle.bits.proofs.Inputs.{pattern-off}
use Rattle.bits.proofs.patterns.lower.Goals as goal

pub returns : goal.returns
returns c =
    let g = c.args in
    λ x h. bit-and g.table (18446744073709551615 - c.of_input.result) x
    ∙ ap (λ (t : Bool). bit g.table x && t) (pattern-off g.j c.of_input.result x h c.of_input.ensures)
