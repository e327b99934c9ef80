-- `halved` meets its contract. The loop's invariant: what is left of t after the inputs passed. Assumes nothing.
use mathlib.Core.Path.{◌≡◌, ap, subst, ◌∙◌}
use mathlib.Core.Bool.{Bool, ◌&&◌, beq}
use native.Mathlib.Omega.{arith}
use Rattle.bits.specs.Numbers.{bit}
use Rattle.sheets.specs.Record.{byte_at}
use Rattle.runs.specs.Running.{input_at}
use Rattle.runs.proofs.Halving.{Halved, halved_more, halved_all}
use Rattle.runs.proofs.running.halved.Goals as goal

pub loop-j-preserved : goal.loop-j-preserved
loop-j-preserved c =
    let a = c.args in
    let v = input_at (byte_at a.b.now) (bit a.w) in
    let j = c.loop-j.j in (
      omega arith,
      halved_more 6 v a.t c.loop-j.left c.half-left.result j
          (λ x l. c.half-left.ensures x l ∙ ap (λ (s : Bool). bit c.loop-j.left x && beq (bit x j) s)
          c.value.ensures) c.loop-j.invariant.1,
    )

pub returns : goal.returns
returns c =
    let a = c.args in
    let v = input_at (byte_at a.b.now) (bit a.w) in
    let z : c.loop-j.j ≡ 6 = omega arith in
    halved_all 6 v a.t c.loop-j.left c.loop-j.invariant.0
    (subst (Halved 6 v a.t c.loop-j.left) z c.loop-j.invariant.1)
