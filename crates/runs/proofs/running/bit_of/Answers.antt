-- `bit_of` meets its contract. The loop's invariant: what is left to run gives the sheet's bit. Assumes nothing.
use Rattle.std.proofs.Common.{add-zero}
use mathlib.Core.Path.{◌≡◌, refl, sym, ap, ◌∙◌}
use mathlib.Core.List.{List}
use Prim.Native.Nat.{ℕ, ◌+◌, ◌*◌, ◌%◌, ◌^◌}
use native.Mathlib.Omega.{arith}
use lib.Pow.{pow-add}
use mir.Val.{bool_byte}
use Rattle.bits.specs.Numbers.{bit}
use Rattle.bits.proofs.Numbers.{val-mul-le}
use Rattle.bits.proofs.Building.{bool_digit, added}
use Rattle.sheets.specs.Network.{output}
use Rattle.sheets.specs.Record.{byte_at, cell_of}
use Rattle.sheets.specs.Sheet.{sheet_bit}
use Rattle.runs.proofs.Runs.{bit-step, ran_none, ran_more, ran_all}
use Rattle.runs.proofs.running.bit_of.Goals as goal

pub loop-i-init : goal.loop-i-init
loop-i-init c =
    let a = c.args in (
      rw add-zero c.requires.x_bound,
      ran_none a.e a.s.now a.m a.n a.x (bit a.x)
          (λ h. refl),
    )

pub loop-i-preserved : goal.loop-i-preserved
loop-i-preserved c =
    let a = c.args in
    let t = c.args.n + c.loop-i.i in
    let up : c.args.n + (c.loop-i.i + 1) ≡ t + 1 = omega arith in
    let w = c.loop-i.w in
    let r = c.output_of-o.result in
    let z = added 32 r (omega arith) c.loop-i.invariant.0 (bool_digit {s = r} refl) in (
      omega (arith, z, pow-add 2 t 1, ap (λ (k : ℕ). 2 ^ k) up, val-mul-le r (2 ^ t)),
      ran_more a.e a.s.now a.m (sheet_bit a.e a.n a.s.now a.m a.x) a.n c.loop-i.i
          c.loop-i.o r (bit w)
          (bit (w + bool_byte r * 2 ^ t % 2 ^ 32)) (omega arith)
          (c.output_of-o.ensures ∙ ap (λ (b : List ℕ). output (cell_of a.e (byte_at b)) (bit w))
          c.record_of.ensures)
          (λ h. ap (λ (x : ℕ). bit x h) z ∙ sym (bit-step w t r h c.loop-i.invariant.0))
          c.loop-i.invariant.1,
    )

pub returns : goal.returns
returns c =
    let a = c.args in
    sym (ran_all a.e a.s.now a.m (sheet_bit a.e a.n a.s.now a.m a.x) a.n c.loop-i.i
    c.loop-i.o (bit c.loop-i.w) (omega arith) c.loop-i.invariant.1)
