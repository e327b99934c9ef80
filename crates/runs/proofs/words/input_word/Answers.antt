-- `input_word` meets its contract: below 6 the bits of the place, from there on the bits of w. Assumes nothing.
use mathlib.Core.Path.{sym, ◌∙◌}
use mathlib.Core.Bool.{true, false}
use Prim.Native.Nat.{◌-◌}
use native.Mathlib.Omega.{arith}
use Rattle.bits.proofs.Machine.{bit-set, bit-clear}
use Rattle.bits.proofs.Numbers.{none-zero}
use Rattle.bits.proofs.Sums.{all_ones}
use Rattle.runs.proofs.Choosing.{input_low, input_high}
use Rattle.runs.proofs.words.input_word.Goals as goal

pub returns-then-j-lt6 : goal.returns-then-j-lt6
returns-then-j-lt6 c = let a = c.args in c.of_input.ensures ∙ input_low a.j a.w (omega arith)

pub returns-then-w-j-eq1 : goal.returns-then-w-j-eq1
returns-then-w-j-eq1 c =
    let a = c.args in omega (
      arith,
      input_high a.j a.w true (omega arith) (bit-set a.w (a.j - 6) c.if-w-j-eq1.true),
      all_ones
          64,
    )

pub returns-else-w-j-eq1 : goal.returns-else-w-j-eq1
returns-else-w-j-eq1 c =
    let a = c.args in sym (input_high a.j a.w false (omega arith) (bit-clear a.w (a.j - 6) c.if-w-j-eq1.false) ∙ none-zero 64)
