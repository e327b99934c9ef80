-- The loop keeps the first j bits of the byte. Assumes nothing.
use mathlib.Core.Path.{◌≡◌, refl, sym, ap, ap₂, ◌∙◌}
use Prim.Native.Nat.{ℕ, ◌+◌, ◌*◌, ◌^◌}
use native.Mathlib.Nat.{mul_comm}
use native.Mathlib.Omega.{arith}
use lib.Pow.{pow-add}
use Rattle.bits.specs.Numbers.{bit, number}
use Rattle.bits.specs.Sets.{size}
use Rattle.bits.proofs.Building.{bool_digit, summed_fits, summed}
use Rattle.splits.specs.Split.{reads_h}
use Rattle.charts.proofs.pair.h_byte.Invariants.{H, end}
use Rattle.charts.proofs.pair.h_byte.Goals as goal

pub loop-j-init : goal.loop-j-init
unfolding number
loop-j-init c = refl

pub h_bit-requires : goal.h_bit-requires
h_bit-requires c = let p = c.requires in (p.0, p.1, p.2)

pub overflow_add-b : goal.overflow_add-b
overflow_add-b c =
    let q = c.loop-j in
    let a = c.args in
    let f = H a.t.now a.s (end a.s a.limit) a.i in
    omega (arith, summed_fits 8 f (omega arith) q.invariant (bool_digit c.h_bit.ensures))

pub loop-j-preserved : goal.loop-j-preserved
loop-j-preserved c =
    let q = c.loop-j in
    let a = c.args in
    let f = H a.t.now a.s (end a.s a.limit) a.i in
    summed 8 f (omega arith) q.invariant (bool_digit c.h_bit.ensures)

pub returns : goal.returns
returns c r e =
    let q = c.loop-j in
    let a = c.args in
    let k = size a.s.n (reads_h (bit a.s.own) (bit a.s.shared)) in
    let eight : q.j ≡ 8 = omega arith in
    let all : end a.s a.limit ≡ 2 ^ (k + r) =
    ap (λ (m : ℕ). m * 2 ^ k) e ∙ mul_comm (2 ^ r) (2 ^ k) ∙ sym (pow-add 2 k r) in
    q.invariant ∙ ap₂ (λ (m l : ℕ). number m (H a.t.now a.s l a.i)) eight all
