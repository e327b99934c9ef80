-- Only a table of fewer than three inputs has spare bits; its one byte, shifted by 2 ^ n, shows them. Assumes nothing.
use mathlib.Core.Path.{sym, ap, ◌∙◌}
use Prim.Native.Nat.{ℕ, ◌-◌, ◌/◌, ◌^◌}
use native.Mathlib.Omega.{arith}
use Rattle.std.proofs.lemmas.Bool.{le-leb}
use lib.Dec.{eqb}
use lib.ListN.{get_or}
use lib.Pow.{pow_mono}
use Rattle.bits.proofs.Machine.{shl_one}
use Rattle.tables.proofs.Spare.{spare_few, spare_none}
use Rattle.tables.proofs.spare_clear.Goals as goal

pub bounds-t-0 : goal.bounds-t-0
bounds-t-0 c = omega (arith, pow_mono {i = 0} {j = c.args.n - 3} (omega arith))

pub overflow_cast-result : goal.overflow_cast-result
overflow_cast-result c =
    omega (
      arith,
      shl_one 32 c.args.n (omega arith),
      pow_mono
          {i = c.args.n} {j = 2} (omega arith),
    )

pub overflow_shr-result : goal.overflow_shr-result
overflow_shr-result c =
    omega (
      arith,
      shl_one 32 c.args.n (omega arith),
      pow_mono
          {i = c.args.n} {j = 2} (omega arith),
    )

pub returns-else-n-ge3 : goal.returns-else-n-ge3
returns-else-n-ge3 c =
    let a = c.args in
    ap (λ (k : ℕ). eqb (get_or a.t.now 0 0 / 2 ^ k) 0) (shl_one 32 a.n (omega arith))
    ∙ spare_few a.n a.t.now (omega (arith, c.type_inv.t 0))

pub returns-then-n-ge3 : goal.returns-then-n-ge3
returns-then-n-ge3 c =
    le-leb 3 c.args.n c.if-n-ge3.true ∙ sym (spare_none c.args.n c.args.t.now (omega arith))
