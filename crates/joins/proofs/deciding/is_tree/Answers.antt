-- The loop keeps what is left reduced, and the inputs from j on decided. Assumes nothing.
use mathlib.Core.Path.{◌≡◌, subst}
use Prim.Native.Nat.{ℕ, ◌+◌, ◌-◌, ◌*◌, ◌%◌, ◌^◌, ◌<◌, ◌≤◌}
use native.Mathlib.Decide.{dec_lt}
use native.Mathlib.Omega.{arith}
use lib.Pow.{pow_mono, pow_pos}
use borrow.Author.Tests.{lt-ltb, ltb-true}
use Rattle.bits.proofs.Machine.{shl_one, bit-set, bit-clear}
use Rattle.tables.specs.Table.{table_bit}
use Rattle.tables.specs.Counting.{support}
use Rattle.joins.specs.declared.pairs.Left.{Left}
use Rattle.joins.specs.Left.{DecidedFrom}
use Rattle.joins.proofs.Starting.{support-lt, reduced_start, from_start}
use Rattle.joins.proofs.Turns.{from_passed}
use Rattle.joins.proofs.Ending.{few_tree, many_none}
use Rattle.joins.proofs.deciding.is_tree.Lts as lts
use Rattle.joins.proofs.deciding.is_tree.Reads as reads
use Rattle.joins.proofs.deciding.is_tree.Tie as tie
use Rattle.joins.proofs.deciding.is_tree.Goals as goal

-- the inputs as a mask
module _ (c : lts.Start tie.the-claims reads.Pre reads.Post goal.the-invariant-loop-j goal.the-decreases-loop-j) where
  all : 1 * 2 ^ c.args.n % 2 ^ 32 ≡ 2 ^ c.args.n
  all = shl_one 32 c.args.n (omega (arith, c.requires.0))

  within : c.args.counting < 2 ^ c.args.n
  within = omega (arith, c.requires.2, support-lt c.args.n (table_bit c.args.t.now))

  width : 2 ^ c.args.n ≤ 2 ^ 16
  width = pow_mono {i = c.args.n} {j = 16} c.requires.0

pub overflow_sub-all : goal.overflow_sub-all
overflow_sub-all c = omega (arith, all c.before.before, pow_pos c.args.n)

pub overflow_sub-idle : goal.overflow_sub-idle
overflow_sub-idle c = omega (arith, all c.before.before, within c.before.before)

pub overflow_cast-g : goal.overflow_cast-g
overflow_cast-g c = omega (arith, all c.before.before, width c.before.before)

pub loop-j-init : goal.loop-j-init
loop-j-init c =
    let n = c.args.n in
    let F = table_bit c.args.t.now in
    let idle = 1 * 2 ^ n % 2 ^ 32 - 1 - c.args.counting in
    let sum : idle + support n F + 1 ≡ 2 ^ n = omega (arith, all c.before.before, within c.before.before, c.requires.2) in
    (reduced_start n F idle sum, from_start n F idle sum)

-- the inputs above the one at hand are decided
above : (n : ℕ) (g : Left) (j : ℕ) → 0 < j → DecidedFrom n g j → DecidedFrom n g (j - 1 + 1)
above n g j some from = let e : j ≡ j - 1 + 1 = omega arith in subst (DecidedFrom n g) e from

pub decide-g-requires : goal.decide-g-requires
decide-g-requires c =
    let l = c.loop-j in
    let f = bit-clear l.g.fixed (l.j - 1) c.if-g-j-ne1.true in
    (c.requires.0, l.invariant.0, above c.args.n l.g l.j (omega arith) l.invariant.1, (omega arith, f), c.requires.1)

pub loop-j-preserved-then-g-j-ne1 : goal.loop-j-preserved-then-g-j-ne1
loop-j-preserved-then-g-j-ne1 c = (c.decide-g.ensures.0, c.decide-g.ensures.1)

pub loop-j-preserved : goal.loop-j-preserved
loop-j-preserved c =
    let l = c.loop-j in (
      l.invariant.0,
      from_passed c.args.n l.g (l.j - 1) (bit-set l.g.fixed (l.j - 1) c.if-g-j-ne1.false)
          (above c.args.n l.g l.j (omega arith) l.invariant.1),
    )

pub returns : goal.returns
returns c =
    let l = c.loop-j in
    let n = c.args.n in
    let F = table_bit c.args.t.now in
    let e : l.j ≡ 0 = omega (arith, c.loop-j-test.false) in
    let from = subst (DecidedFrom n l.g) e l.invariant.1 in
    let many = c.members.ensures n l.invariant.0.below in (
      λ t. few_tree n F l.g l.invariant.0 from (omega (arith, many, ltb-true c.members.result 2 t)),
      λ w. elim (dec_lt c.members.result 2) [
        | yes h ↦ lt-ltb c.members.result 2 h
        | no h ↦ absurd (many_none n F l.g l.invariant.0 from (omega (arith, many)) w)
      ],
    )
