-- The law of the next spread number, at a width that holds 2 ^ n. Assumes nothing.
use mathlib.Core.Path.{ap, ◌∙◌}
use Prim.Native.Nat.{ℕ, ◌+◌, ◌-◌, ◌*◌, ◌^◌, ◌%◌}
use native.Mathlib.Nat.{lt_of_le_of_lt}
use native.Mathlib.Omega.{arith}
use lib.Bits.{bit_and, and_le_r}
use Rattle.bits.proofs.Machine.{shl_one}
use Rattle.bits.proofs.Masks.{mask_most}
use Rattle.bits.proofs.Next.{next-spread}
use Rattle.bits.proofs.sets.next.Goals as goal

pub overflow_add-result : goal.overflow_add-result
overflow_add-result c = omega (arith, shl_one 32 c.args.n (omega arith), mask_most c.requires.0)

pub overflow_sub-result : goal.overflow_sub-result
overflow_sub-result c =
    omega (arith, shl_one 32 c.args.n (omega arith), mask_most c.requires.0, c.requires.1)

pub returns : goal.returns
returns c = (
  lt_of_le_of_lt (and_le_r (c.args.s + 1 * 2 ^ c.args.n % 2 ^ 32 - c.args.mask) c.args.mask) c.requires.1,
  λ v e. ap (λ (m : ℕ). bit_and (c.args.s + m - c.args.mask) c.args.mask) (shl_one 32 c.args.n (omega arith))
      ∙ next-spread c.args.n c.args.mask c.args.s v c.requires.1 e,
)
