-- The loop keeps the numbers below 2 ^ j, as a word. Assumes nothing.
use mathlib.Core.Path.{refl}
use native.Mathlib.Omega.{arith}
use Rattle.bits.specs.Numbers.{number}
use Rattle.bits.specs.Sets.{is_subset}
use Rattle.bits.proofs.Subsets.{subsets_shift, subsets-turn, subsets_fits}
use Rattle.bits.proofs.sets.subsets.Goals as goal

pub loop-j-init : goal.loop-j-init
unfolding number is_subset
loop-j-init c = (omega arith, refl)

pub overflow_shl-r : goal.overflow_shl-r
overflow_shl-r c =
    let q = c.loop-j in omega (
      arith,
      subsets_shift c.args.mask c.loop-j-test.true
          q.invariant.1,
    )

pub overflow_add-r : goal.overflow_add-r
overflow_add-r c =
    let q = c.loop-j in omega (
      arith,
      subsets_fits c.args.mask c.loop-j-test.true
          q.invariant.1,
    )

pub loop-j-preserved : goal.loop-j-preserved
loop-j-preserved c =
    let q = c.loop-j in (
      omega arith,
      subsets-turn c.args.mask c.loop-j-test.true
          q.invariant.1,
    )
