-- The loop keeps the inputs that are not known to be idle: those still to be looked at, and those that count. Assumes
-- nothing.
use mathlib.Core.Path.{◌≡◌, sym, ap, ◌∙◌, subst}
use Prim.Native.Nat.{ℕ, suc, ◌+◌, ◌-◌, ◌*◌, ◌%◌, ◌^◌, ◌<◌}
use native.Mathlib.Omega.{arith}
use lib.Pow.{pow_mono}
use Rattle.bits.proofs.Machine.{shl_one}
use Rattle.tables.specs.Table.{table_bit}
use Rattle.tables.specs.Words.{Live}
use Rattle.tables.proofs.Living.{live, live_all, live_none, lives, live_stays, live_goes}
use Rattle.tables.proofs.counting.support_of.Lts as lts
use Rattle.tables.proofs.counting.support_of.Reads as reads
use Rattle.tables.proofs.counting.support_of.Tie as tie
use Rattle.tables.proofs.counting.support_of.Goals as goal

-- the inputs as a mask
module _ (c : lts.After-shared_slice_known tie.the-claims reads.Pre reads.Post goal.the-invariant-loop-j goal.the-decreases-loop-j) where
  full : 1 * 2 ^ c.args.n % 2 ^ 32 ≡ live c.args.n (table_bit c.args.t.now)
      c.args.n + 1
  full = shl_one 32 c.args.n (omega (arith, c.requires.1))
      ∙ sym (live_all c.args.n (table_bit c.args.t.now))

pub overflow_cast-live : goal.overflow_cast-live
overflow_cast-live c =
    omega (
      arith,
      full c.before,
      live_all c.args.n (table_bit c.args.t.now),
      pow_mono {i = c.args.n} {j = 16}
          c.requires.1,
    )

-- at a turn: the inputs down to the one that is looked at
module _ (c : lts.In-loop tie.the-claims reads.Pre reads.Post goal.the-invariant-loop-j goal.the-decreases-loop-j) where
  abbrev j : ℕ
  j = c.loop-j.j - 1

  now_live : c.loop-j.live ≡ live c.args.n
      (table_bit c.args.t.now) (suc j)
  now_live = let a = c.args in
      let e : c.loop-j.j ≡ suc j = omega arith in
      c.loop-j.invariant.0 ∙ ap (live a.n (table_bit a.t.now)) e

pub counts_in-requires : goal.counts_in-requires
counts_in-requires c =
    let l : j c.before < c.args.n = omega (arith, c.loop-j.invariant.1) in (
      c.requires.0,
      c.requires.1,
      l,
      subst (λ (m : ℕ). Live c.args.n (table_bit c.args.t.now) m (j c.before)) (sym (now_live c.before))
          (lives c.args.n (table_bit c.args.t.now) (j c.before) l),
    )

-- an input that does not count is one less
module _ (c : lts.Then1 tie.the-claims reads.Pre reads.Post goal.the-invariant-loop-j goal.the-decreases-loop-j) where
  less : c.loop-j.live ≡ live c.args.n
      (table_bit c.args.t.now) (j c.before.before)
      + 1 * 2 ^ j c.before.before % 2 ^ 16
  less = let F = table_bit c.args.t.now in
      let l : j c.before.before < c.args.n = omega (arith, c.loop-j.invariant.1) in
      now_live c.before.before ∙ live_goes c.args.n F (j c.before.before) l
      (sym c.counts_in.ensures ∙ c.if-not-counts_in.true)
      ∙ ap (λ (m : ℕ). live c.args.n F (j c.before.before) + m) (sym (shl_one 16 (j c.before.before) (omega (arith, c.requires.1))))

pub loop-j-preserved : goal.loop-j-preserved
loop-j-preserved c =
    let l : j c.before.before.before < c.args.n = omega (arith, c.loop-j.invariant.1) in (
      now_live c.before.before.before ∙ live_stays c.args.n (table_bit c.args.t.now) (j c.before.before.before) l (sym c.counts_in.ensures
          ∙ c.if-not-counts_in.false),
      omega arith,
    )

pub returns : goal.returns
returns c =
    let a = c.args in
    let e : c.loop-j.j ≡ 0 = omega arith in
    c.loop-j.invariant.0 ∙ ap (live a.n (table_bit a.t.now)) e ∙ live_none a.n (table_bit a.t.now)

pub overflow_sub-all : goal.overflow_sub-all
overflow_sub-all c = omega (arith, full c.before)

pub loop-j-init : goal.loop-j-init
loop-j-init c = (omega (arith, full c.before), omega arith)

pub overflow_sub-live : goal.overflow_sub-live
overflow_sub-live c = omega (arith, less c.before)

pub loop-j-preserved-then-not-counts_in : goal.loop-j-preserved-then-not-counts_in
loop-j-preserved-then-not-counts_in c = (omega (arith, less c.before), omega arith)
