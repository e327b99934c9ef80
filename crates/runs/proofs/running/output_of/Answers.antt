-- `output_of` meets its contract: inputs 6 and 7 make the number of a word, and the word's bit is the cell's. Assumes
-- nothing.
use mathlib.Core.Path.{◌≡◌, ◌∙◌}
use Prim.Native.Nat.{◌+◌, ◌*◌}
use native.Mathlib.Omega.{arith}
use mir.Val.{bool_byte}
use Rattle.bits.specs.Numbers.{bit, number}
use Rattle.bits.proofs.Building.{bool_digit}
use Rattle.sheets.specs.Record.{byte_at}
use Rattle.runs.specs.Running.{input_at}
use Rattle.runs.proofs.Choosing.{word_there, output-word}
use Rattle.runs.proofs.running.output_of.Lts as lts
use Rattle.runs.proofs.running.output_of.Reads as reads
use Rattle.runs.proofs.running.output_of.Tie as tie
use Rattle.runs.proofs.running.output_of.Goals as goal

-- the number of a word
high : (c : lts.After-value2 tie.the-claims reads.Pre reads.Post) → let a = c.args in
    bool_byte c.value.result + 2 * bool_byte c.value-2.result
    ≡ number 2 (λ j. input_at (byte_at a.b.now) (bit a.w) (6 + j))
unfolding number
high c = omega (arith, bool_digit c.value.ensures, bool_digit c.value-2.ensures)

pub bits_from-requires : goal.bits_from-requires
bits_from-requires c =
    word_there c.args.e c.args.b.now c.requires (bit c.args.w) (high c.before.before)

pub returns : goal.returns
returns c =
    let a = c.args in
    c.halved.ensures
    ∙ output-word a.e a.b.now c.requires (bit a.w) (high c.before.before.before.before)
    c.bits_from.result c.bits_from.ensures
