-- Two to the size of the set. Assumes nothing.
use mathlib.Core.Path.{◌≡◌, ap, ◌∙◌}
use Prim.Native.Nat.{ℕ, ◌^◌, ◌≤◌}
use native.Mathlib.Omega.{arith}
use lib.Pow.{pow_pos}
use Rattle.bits.specs.Numbers.{bit}
use Rattle.bits.specs.Sets.{mask_width, size}
use Rattle.bits.proofs.Machine.{shl_one}
use Rattle.bits.proofs.Masks.{mask_most}
use Rattle.bits.proofs.Sizes.{size-le}
use Rattle.bits.proofs.sets.parts.Goals as goal

pub overflow_shl-result : goal.overflow_shl-result
overflow_shl-result c =
    omega (
      arith,
      c.members.ensures c.args.n c.requires.1,
      size-le c.args.n
          (bit c.args.mask),
    )

pub returns : goal.returns
returns c =
    let a = c.args in
    let k = c.members.result in
    let e : k ≡ size a.n (bit a.mask) = c.members.ensures a.n c.requires.1 in
    let l : k ≤ mask_width = omega (arith, size-le a.n (bit a.mask)) in
    let s = shl_one 32 k (omega arith) in
    (s ∙ ap (λ (m : ℕ). 2 ^ m) e, omega (arith, s, pow_pos k), omega (arith, s, mask_most l))
