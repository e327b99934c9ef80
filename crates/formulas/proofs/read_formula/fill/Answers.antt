-- `fill` meets its contract. The loop's invariant: the bytes passed are the table's, and within a stretch v is that
-- stretch. Assumes nothing.
use mathlib.Core.Path.{◌≡◌, refl, ap, ◌∙◌}
use Prim.Native.Nat.{ℕ, ◌+◌, ◌-◌, ◌/◌, ◌%◌}
use native.Mathlib.Omega.{arith}
use lib.Pow.{pow_mono}
use Rattle.bits.proofs.Filling.{filled_none, filled_more, filled_whole}
use Rattle.tables.specs.Table.{bytes_of, table_of}
use Rattle.runs.proofs.Choosing.{word_starts}
use Rattle.formulas.specs.Reading.{text_of, value_in}
use Rattle.values.specs.Stretches.{stretch_of}
use Rattle.values.proofs.Bitwise.{table-word, word_at}
use Rattle.formulas.proofs.read_formula.fill.Invariants.{bits}
use Rattle.formulas.proofs.read_formula.fill.Goals as goal
use Rattle.formulas.proofs.read_formula.fill.Goals.{then-i-eq0, else-i-eq0}

pub overflow_cast-i : goal.overflow_cast-i
overflow_cast-i c =
    omega (arith, pow_mono {i = c.args.n - 3} {j = 13} (omega (arith, c.requires.0)), c.requires.1)

pub text_stretch-v-requires : goal.text_stretch-v-requires
text_stretch-v-requires c = (c.requires.0, c.requires.2)

pub first_bits-requires : goal.first_bits-requires
first_bits-requires c = c.requires.0

pub loop-i-preserved : goal.loop-i-preserved
loop-i-preserved c =
    let a = c.args in
    let i = c.loop-i.i in
    let w : c.if-i-eq0.v ≡ stretch_of (value_in (text_of a.n a.t.now)) (i / 32) =
    elim c.if-i-eq0.branch [
      | then-i-eq0 u ↦ u.v-is ∙ u.text_stretch-v.ensures
      | else-i-eq0 u ↦ u.v-is ∙ c.loop-i.invariant.1 u.if-i-eq0.false
    ] in (
      filled_more c.loop-i.invariant.0 (omega arith) (omega arith)
          (c.byte_in.ensures (bits a.n a.t.now) (table-word a.n i (value_in (text_of a.n a.t.now))
          (word_starts a.n i (omega (arith, c.requires.1))) w (word_at c.if-i-eq0.v (i / 8 % 4) (omega arith))
          c.first_bits.ensures)),
      λ h. let e : i / 32 ≡ (i + 1) / 32 = omega arith in w ∙ ap (stretch_of (value_in (text_of a.n a.t.now))) e,
    )

pub returns : goal.returns
unfolding table_of
returns c =
    let a = c.args in
    filled_whole c.loop-i.invariant.0 (omega arith) (omega arith)
    ∙ ap (λ (k : ℕ). bytes_of k (bits a.n a.t.now)) c.requires.1

pub loop-i-init : goal.loop-i-init
loop-i-init c = (filled_none (omega arith), λ h. absurd (h refl))
