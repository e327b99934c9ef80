-- The loop keeps what is left of the word below position j. Assumes nothing.
use mathlib.Core.Path.{◌≡◌, refl, sym, ap, ap₂, ◌∙◌, subst}
use Prim.Native.Nat.{ℕ, ◌+◌, ◌-◌, ◌*◌, ◌/◌, ◌%◌, ◌^◌, ◌≤◌}
use native.Mathlib.Nat.{lt_of_le_of_lt, div-le_self}
use native.Mathlib.Omega.{arith}
use lib.Bits.{bit_and, bit_or, or_lt}
use lib.Pow.{pow_mono}
use Rattle.bits.specs.Sets.{word_positions, size}
use Rattle.bits.proofs.Building.{bit-digit}
use Rattle.bits.proofs.Machine.{shl_one}
use Rattle.bits.proofs.Packing.{count_more, count_most}
use Rattle.tables.proofs.Squeezing.{Squeezed, kept-le, squeezed_none, squeezed_more, squeezed_all}
use Rattle.tables.proofs.fixed.squeeze.Lts as lts
use Rattle.tables.proofs.fixed.squeeze.Reads as reads
use Rattle.tables.proofs.fixed.squeeze.Tie as tie
use Rattle.tables.proofs.fixed.squeeze.Goals as goal

pub loop-j-init : goal.loop-j-init
unfolding size
loop-j-init c = (omega arith, omega arith, refl, omega arith, squeezed_none c.args.word c.args.mask)

-- the two places of the shift
module _ (c : lts.After-upper tie.the-claims reads.Pre reads.Post goal.the-invariant-loop-j goal.the-decreases-loop-j) where
  abbrev q : lts.At-loop tie.the-claims reads.Pre reads.Post goal.the-invariant-loop-j goal.the-decreases-loop-j
  q = c.before.before

  abbrev mask : ℕ
  mask = q.args.mask

  to : 1 * 2 ^ q.loop-j.j % 2 ^ 64 ≡ 2 ^ q.loop-j.j
  to = shl_one 64 q.loop-j.j (omega (arith, c.loop-j-test.true))

  from : 1 * 2 ^ q.loop-j.k % 2 ^ 64 ≡ 2 ^ q.loop-j.k
  from = shl_one 64 q.loop-j.k (omega (arith, c.loop-j-test.true, q.loop-j.invariant.1))

  down : 2 ^ q.loop-j.k ≤ 2 ^ q.loop-j.j
  down = pow_mono {i = q.loop-j.k} {j = q.loop-j.j} q.loop-j.invariant.1

  most : 2 ^ q.loop-j.j ≤ 2 ^ 5
  most = pow_mono {i = q.loop-j.j} {j = 5} (omega (arith, c.loop-j-test.true))

pub loop-j-preserved : goal.loop-j-preserved
loop-j-preserved c =
    let s = (q c.before).loop-j in
    let a = (q c.before).args in
    let member = bit_and (mask c.before / 2 ^ s.j) 1 in
    let by = 1 * 2 ^ s.j % 2 ^ 64 - 1 * 2 ^ s.k % 2 ^ 64 in (
      omega (arith, c.loop-j-test.true),
      count_most (mask c.before) s.j s.invariant.2,
      count_more (mask c.before) s.j s.invariant.2,
      or_lt 64 c.lower.result (c.upper.result * member / 2 ^ by) (omega arith)
          (lt_of_le_of_lt (div-le_self (c.upper.result * member) (2 ^ by))
          (omega (arith, kept-le c.upper.result (mask c.before) s.j))),
      subst (λ (y : ℕ). Squeezed a.word (mask c.before) (bit_or c.lower.result y) (s.j + 1))
          (sym (ap₂ (λ (d i : ℕ). c.upper.result * d / 2 ^ i) (bit-digit (mask c.before) s.j)
          (ap₂ ◌-◌ (to c.before) (from c.before ∙ ap (λ (i : ℕ). 2 ^ i) s.invariant.2))))
          (squeezed_more a.word (mask c.before) s.w c.lower.result c.upper.result s.j s.invariant.4
          c.loop-j-test.true
          s.invariant.3 (omega arith) c.lower.ensures c.upper.ensures),
    )

pub returns : goal.returns
returns c =
    let s = c.loop-j in
    let a = c.args in
    let e : s.j ≡ word_positions = omega arith in
    squeezed_all a.word a.mask s.w s.invariant.3
    (subst (λ (i : ℕ). Squeezed a.word a.mask s.w i) e s.invariant.4)

pub overflow_mul-moved : goal.overflow_mul-moved
overflow_mul-moved c = omega (arith, kept-le c.upper.result (mask c) (q c).loop-j.j)

pub overflow_sub-moved : goal.overflow_sub-moved
overflow_sub-moved c = omega (arith, to c, from c, down c)

pub overflow_shr-moved : goal.overflow_shr-moved
overflow_shr-moved c = omega (arith, to c, from c, most c)

pub overflow_add-k : goal.overflow_add-k
overflow_add-k c =
    omega (arith, count_most (mask c.before) (q c.before).loop-j.j (q c.before).loop-j.invariant.2)
