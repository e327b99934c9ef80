-- `bytes_of_h` meets its contract: there are at most n own inputs. Assumes nothing.
use mathlib.Core.Path.{ap, ◌∙◌}
use Prim.Native.Nat.{ℕ, ◌+◌, ◌-◌}
use native.Mathlib.Omega.{arith}
use lib.Pow.{pow_mono}
use Rattle.bits.specs.Numbers.{bit}
use Rattle.bits.proofs.Sizes.{size-le}
use Rattle.tables.specs.Table.{most_inputs, table_length}
use Rattle.splitting.proofs.try_split.bytes_of_h.Goals as goal

pub overflow_sub-n : goal.overflow_sub-n
overflow_sub-n c =
    omega
    (arith, c.members.ensures c.args.n c.requires.1, size-le c.args.n (bit c.args.own))

pub length_for-requires : goal.length_for-requires
length_for-requires c =
    omega
    (arith, c.requires.0, c.requires.2, c.members.ensures c.args.n c.requires.1)

pub returns : goal.returns
returns c =
    let m = c.members in
    let h = m.ensures c.args.n c.requires.1 in (
      c.length_for.ensures ∙ ap (λ (k : ℕ). table_length (c.args.n + c.args.r - k)) h,
      omega (
        arith,
        c.length_for.ensures,
        pow_mono {i = c.args.n + c.args.r - m.result - 3} {j = most_inputs - 3}
            (omega (arith, c.requires.0, c.requires.2, h)),
      ),
    )
