-- The loop keeps that no bit of the words passed changes; those passed at the end are enough. Assumes nothing.
use mathlib.Core.Path.{sym, ap, ◌∙◌, subst}
use mathlib.Core.Logic.{⊎_elim}
use Prim.Native.Nat.{ℕ, ◌+◌, ◌*◌}
use native.Mathlib.Nat.{not-suc-le-zero}
use native.Mathlib.Omega.{arith}
use lib.Pow.{pow_mono}
use Rattle.bits.specs.Numbers.{bit}
use Rattle.bits.specs.Sets.{spread}
use Rattle.bits.proofs.Below.{below_suc}
use Rattle.bits.proofs.Walking.{walked_none, walked_more, walked_lt, walked_end}
use Rattle.tables.specs.Table.{table_bit}
use Rattle.tables.specs.Words.{WordWithout, Steady}
use Rattle.tables.proofs.Depending.{steady_idle}
use Rattle.tables.proofs.Changing.{others_are, without_j, enough_words}
use Rattle.tables.proofs.counting.counts_in.Goals as goal

pub parts-many-requires : goal.parts-many-requires
parts-many-requires c =
    let a = c.args in
    let e = c.above_words-top.ensures in (
      omega (arith, e, c.requires.1),
      (others_are a.n a.live a.j c.above_words-top.result c.requires.1
          c.requires.3.below c.requires.2 e).below,
    )

pub loop-v-init : goal.loop-v-init
loop-v-init c =
    let a = c.args in (
      others_are a.n a.live a.j c.above_words-top.result c.requires.1 c.requires.3.below c.requires.2
          c.above_words-top.ensures,
      walked_none (omega (arith, c.above_words-top.ensures, c.requires.1)) c.parts-many.ensures.0,
      λ u h. absurd (not-suc-le-zero h),
    )

pub overflow_cast-w : goal.overflow_cast-w
overflow_cast-w c =
    let q = c.loop-v in
    omega (
      arith,
      walked_lt q.invariant.1,
      pow_mono {i = c.above_words-top.result} {j = 16}
          (omega (arith, q.invariant.0.at, c.requires.1)),
    )

pub changes-requires : goal.changes-requires
changes-requires c =
    let q = c.loop-v in
    let a = c.args in (
      c.requires.0,
      c.requires.1,
      c.requires.2,
      c.lower_half-half.ensures,
      subst (WordWithout a.n a.j) (sym q.invariant.1.at)
          (without_j a.n (table_bit a.t.now) a.j c.requires.2 a.live _ _ c.requires.3 q.invariant.0 q._v),
    )

pub returns-then-changes : goal.returns-then-changes
returns-then-changes c = sym (c.changes.ensures.changes c.if-changes.true)

pub next-w-requires : goal.next-w-requires
next-w-requires c =
    let q = c.loop-v in
    (omega (arith, q.invariant.0.at, c.requires.1), q.invariant.0.below, walked_lt q.invariant.1)

pub loop-v-preserved : goal.loop-v-preserved
loop-v-preserved c =
    let q = c.loop-v in
    let l = c.loop-v-test.true in
    let a = c.args in (
      q.invariant.0,
      walked_more q.invariant.1 l c.next-w.ensures.1,
      λ u h i g. ⊎_elim (λ old. q.invariant.2 u old i g)
          (λ e. subst (λ (w : ℕ). Steady a.n (table_bit a.t.now) a.j (64 * w + i))
          (q.invariant.1.at ∙ ap (spread _ (bit _)) (sym e))
          (c.changes.ensures.steady c.if-changes.false i g))
          (below_suc {j = u} {n = q._v} (omega arith)),
    )

pub returns : goal.returns
returns c =
    let q = c.loop-v in
    let a = c.args in
    let F = table_bit a.t.now in
    let end = walked_end q.invariant.1 (omega arith) in
    sym (steady_idle a.n F a.j c.requires.2
    (enough_words a.n F a.j c.requires.2 a.live _ _ c.requires.3 q.invariant.0 (λ v h. q.invariant.2 v (omega arith))))
