-- A first cell's bit is one of the bits of the column's number. Assumes nothing.
use mathlib.Core.Path.{ap, ◌∙◌}
use Prim.Native.Nat.{ℕ}
use Rattle.bits.specs.Numbers.{bit}
use Rattle.bits.proofs.Machine.{test_bit}
use Rattle.charts.proofs.pair.d_bit.Goals as goal

pub returns : goal.returns
returns c =
    let a = c.args in
    test_bit c.code_at-code.result a.which ∙ ap (λ (m : ℕ). bit m a.which) c.code_at-code.ensures
