-- The support is a mask of n positions, and its members are those that count. Assumes nothing.
use mathlib.Core.Path.{sym, ap, ◌∙◌, subst}
use Prim.Native.Nat.{ℕ, ◌^◌, ◌<◌}
use native.Mathlib.Omega.{arith}
use Rattle.bits.specs.Numbers.{bit}
use Rattle.bits.specs.Sets.{size}
use Rattle.bits.proofs.Numbers.{number_lt}
use Rattle.bits.proofs.Sizes.{size-le}
use Rattle.tables.specs.Table.{table_bit}
use Rattle.tables.specs.Counting.{counts, support}
use Rattle.tables.proofs.counting.counting_inputs.Goals as goal

pub returns : goal.returns
unfolding support
returns c =
    let a = c.args in
    let is = c.support_of-mask.ensures in
    let below = subst (λ (m : ℕ). m < 2 ^ a.n) (sym is) (number_lt a.n (counts a.n (table_bit a.t.now))) in
    let many = c.members-many.ensures a.n below in
    record {
      is = is;
      below = below;
      count = many ∙ ap (λ (m : ℕ). size a.n (bit m)) is;
      few = omega (arith, size-le a.n (bit c.support_of-mask.result));
    }
