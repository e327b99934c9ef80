-- `fix` meets its contract: the machine's sums are the numbers' own. Assumes nothing.
use mathlib.Core.Path.{◌≡◌, ap₂}
use Prim.Native.Nat.{ℕ, ◌+◌, ◌-◌, ◌*◌, ◌%◌, ◌^◌, ◌<◌, ◌≤◌}
use native.Mathlib.Omega.{arith}
use lib.Pow.{pow_mono}
use mir.Val.{bool_byte}
use Rattle.bits.specs.Numbers.{bit, val}
use Rattle.bits.proofs.Machine.{shl_one}
use Rattle.bits.proofs.Single.{plus_lt}
use Rattle.joins.specs.declared.pairs.Left.{Left}
use Rattle.joins.proofs.Leaving.{less_sum, value-shl, value-lt}
use Rattle.joins.proofs.deciding.fix.Lts as lts
use Rattle.joins.proofs.deciding.fix.Reads as reads
use Rattle.joins.proofs.deciding.fix.Tie as tie
use Rattle.joins.proofs.deciding.fix.Goals as goal

module _ (c : lts.Start reads.Pre reads.Post tie.handed_clauses) where
  width : 2 ^ c.args.n ≤ 2 ^ 16
  width = pow_mono {i = c.args.n} {j = 16} c.requires.n_le_most_inputs.0

  one : 1 * 2 ^ c.args.i % 2 ^ 16 ≡ 2 ^ c.args.i
  one = shl_one 16 c.args.i (omega (arith, c.requires.n_le_most_inputs.0, c.requires.n_le_most_inputs.2.0))

  value : bool_byte c.args.v * 2 ^ c.args.i % 2 ^ 32 ≡ val c.args.v * 2 ^ c.args.i
  value = value-shl c.args.v c.args.i (omega (arith, c.requires.n_le_most_inputs.0, c.requires.n_le_most_inputs.2.0))

  mask_lt : c.args.g.fixed + 2 ^ c.args.i < 2 ^ c.args.n
  mask_lt = plus_lt c.args.n c.args.g.fixed c.args.i c.requires.n_le_most_inputs.1.below c.requires.n_le_most_inputs.2.0
      c.requires.n_le_most_inputs.2.1

  at_lt : c.args.g.at + val c.args.v * 2 ^ c.args.i < 2 ^ c.args.n
  at_lt = value-lt c.args.n (λ x. bit 0 0) c.args.g.fixed c.args.g.at c.requires.n_le_most_inputs.1.below
      c.requires.n_le_most_inputs.1.within c.args.i c.requires.n_le_most_inputs.2.0 c.requires.n_le_most_inputs.2.1 c.args.v

pub overflow_add-result : goal.overflow_add-result
overflow_add-result c =
    record { fits = omega (arith, one c.before, width c.before, mask_lt c.before) }

pub overflow_add-result-2 : goal.overflow_add-result-2
overflow_add-result-2 c =
    record { fits = omega (arith, value c.before.before, width c.before.before, at_lt c.before.before) }

pub overflow_sub-result : goal.overflow_sub-result
overflow_sub-result c =
    omega (
      arith,
      one c.before.before.before,
      less_sum c.args.n c.args.g.decided c.args.i c.requires.n_le_most_inputs.3 c.requires.n_le_most_inputs.2.0 c.requires.decided,
    )

pub returns : goal.returns
returns c =
    let g = c.args.g in
    ap₂ (λ (a b : ℕ). as_left (g.fixed + a) (g.at + b) (g.decided - a)) (one c.before.before.before) (value c.before.before.before)
  where
    as_left : ℕ → ℕ → ℕ → Left
    as_left f a d = record { fixed = f; at = a; decided = d }
