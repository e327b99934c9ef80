-- `cell_input` meets its contract: the word of the signal that stands at the input's place. Assumes nothing.
use mathlib.Core.Path.{sym, ap, ◌∙◌}
use mathlib.Core.Bool.{Bool, ◌&&◌}
use Prim.Native.Nat.{◌+◌}
use native.Mathlib.Omega.{arith}
use borrow.Author.Tests.{lt-ltb, le-ltb}
use Rattle.bits.proofs.Numbers.{bit-zero}
use Rattle.sheets.specs.Record.{byte_at}
use Rattle.runs.specs.Words.{lane}
use Rattle.runs.proofs.words.cell_input.Goals as goal

pub returns-then-b-j : goal.returns-then-b-j
returns-then-b-j c =
    λ i.
    let a = c.args in
    let b = byte_at a.b.now in
    bit-zero i ∙ sym (ap (λ (t : Bool). t && lane a.words.now i (b (a.j + 1))) (le-ltb a.j (b 0) (omega arith)))

pub returns : goal.returns
returns c =
    λ i.
    let a = c.args in
    let b = byte_at a.b.now in
    sym (ap (λ (t : Bool). t && lane a.words.now i (b (a.j + 1))) (lt-ltb a.j (b 0) (omega arith)))
