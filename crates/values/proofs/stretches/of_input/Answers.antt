-- `of_input` meets its contract: an input below 8 changes within a stretch, the others number the stretches. Assumes
-- nothing.
use mathlib.Core.Path.{◌≡◌, ◌∙◌}
use Prim.Native.Nat.{ℕ, ◌+◌, ◌*◌}
use Rattle.runs.specs.Words.{input_word}
use Rattle.values.proofs.Bitwise.{four-of, input_within, across}
use Rattle.values.proofs.stretches.of_input.Goals as goal

pub returns-then-j-lt8 : goal.returns-then-j-lt8
returns-then-j-lt8 c =
    let a = c.args in
    let low : (i : ℕ) → input_word a.j i ≡ input_word a.j (4 * a.w + i) = λ i. input_within a.j a.w i
    c.if-j-lt8.true in
    four-of (input_word a.j) a.w (c.input_word.ensures ∙ low 0)
    (c.input_word-then-j-lt8.ensures ∙ low 1)
    (c.input_word-then-j-lt8-2.ensures ∙ low 2) (c.input_word-then-j-lt8-3.ensures ∙ low 3)

pub returns : goal.returns
returns c =
    let a = c.args in
    c.same.ensures ∙ across a.j a.w c.if-j-lt8.false c.input_word-2.ensures
