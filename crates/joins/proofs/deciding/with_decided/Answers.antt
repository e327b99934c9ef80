-- `with_decided` meets its contract: the machine's sum is the numbers' own. Assumes nothing.
use mathlib.Core.Path.{◌≡◌, ap}
use Prim.Native.Nat.{ℕ, ◌+◌, ◌*◌, ◌%◌, ◌^◌}
use native.Mathlib.Omega.{arith}
use lib.Pow.{pow_mono}
use Rattle.bits.proofs.Machine.{shl_one}
use Rattle.bits.proofs.Single.{plus_lt}
use Rattle.joins.specs.declared.pairs.Left.{Left}
use Rattle.joins.proofs.deciding.with_decided.Lts as lts
use Rattle.joins.proofs.deciding.with_decided.Reads as reads
use Rattle.joins.proofs.deciding.with_decided.Goals as goal

module _ (c : lts.Start reads.Pre reads.Post) where
  one : 1 * 2 ^ c.args.j % 2 ^ 16 ≡ 2 ^ c.args.j
  one = shl_one 16 c.args.j (omega (arith, c.requires.0, c.requires.2))

pub overflow_add-result : goal.overflow_add-result
overflow_add-result c =
    record {
      fits = omega (
        arith,
        one c.before,
        pow_mono {i = c.args.n} {j = 16} c.requires.0,
        plus_lt c.args.n c.args.g.decided c.args.j c.requires.1 c.requires.2 c.requires.3,
      );
    }

pub returns : goal.returns
returns c =
    let g = c.args.g in
    ap (λ (m : ℕ). as_left g.fixed g.at (g.decided + m)) (one c.before)
  where
    as_left : ℕ → ℕ → ℕ → Left
    as_left f a d = record { fixed = f; at = a; decided = d }
