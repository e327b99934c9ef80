-- `cell_word` meets its contract. The loop's invariant: the places hold what is left of the table. Assumes nothing.
use mathlib.Core.Path.{◌≡◌, refl, sym, ap, ◌∙◌, subst}
use Prim.Native.Nat.{ℕ, ◌+◌, ◌-◌, ◌*◌, ◌%◌, ◌^◌, ◌≤◌}
use native.Mathlib.Omega.{arith}
use lib.Pow.{pow_mono}
use Rattle.bits.proofs.Machine.{shl_one}
use Rattle.sheets.specs.Record.{byte_at, cell_bit}
use Rattle.runs.specs.Running.{input_at}
use Rattle.runs.specs.Words.{lane}
use Rattle.runs.proofs.Choosing.{left, Left, left-none, left-halved, left-output}
use Rattle.runs.proofs.words.cell_word.Goals as goal

pub loop-j-init : goal.loop-j-init
loop-j-init c =
    let a = c.args in
    let b = byte_at a.b.now in
    let n = c.first_half-others.ensures.value in (
      omega arith,
      refl,
      λ h i l g.
          c.first_half-others.ensures.by_index h i l g
          ∙ sym (ap (λ (j : ℕ). left (cell_bit a.e b) (input_at b (lane a.words.now i)) (b 0 - 1) j h) n
          ∙ left-none (cell_bit a.e b) (input_at b (lane a.words.now i)) (b 0 - 1) h),
    )

pub halve-requires : goal.halve-requires
halve-requires c =
    let p = c.requires in
    let j = c.loop-j.j in
    let few : j ≤ 7 = omega (arith, p.0.sound.eight, p.0.readable.few) in
    omega (
      arith,
      shl_one 64 (j - 1) (omega arith),
      pow_mono {i = j - 1} {j = 6} (omega arith),
      c.loop-j.invariant.1,
      c.first_half-others.auto.v,
      p.2,
    )

pub loop-j-preserved : goal.loop-j-preserved
loop-j-preserved c =
    let a = c.args in
    let b = byte_at a.b.now in
    let j = c.loop-j.j in
    let h = c.halve in
    let i = c.cell_input in
    let up : j - 1 + 1 ≡ j = omega arith in
    let half = 1 * 2 ^ (j - 1) % 2 ^ 64 in (
      omega arith,
      h.auto.v ∙ c.loop-j.invariant.1,
      left-halved a.e b a.words.now (b 0 - 1) c.loop-j.v h.new.v i.result half j (omega arith)
          (omega arith)
          (shl_one 64 (j - 1) (omega (arith, c.requires.0.sound.eight, c.requires.0.readable.few)))
          (λ k. i.ensures k ∙ ap (input_at b (lane a.words.now k)) up)
          h.ensures c.loop-j.invariant.2,
    )

pub shape_of-v : goal.shape_of-v
shape_of-v c = c.loop-j.invariant.1 ∙ c.first_half-others.auto.v

pub returns : goal.returns
returns c =
    let a = c.args in
    let b = byte_at a.b.now in
    let z : c.loop-j.j ≡ 0 = omega arith in
    left-output a.e b a.words.now (b 0 - 1) c.loop-j.v (omega arith)
    (subst (Left a.e b a.words.now (b 0 - 1) c.loop-j.v) z c.loop-j.invariant.2)
