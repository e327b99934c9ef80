-- The loop keeps the first i bits of the word. Assumes nothing.
use mathlib.Core.Path.{◌≡◌, refl, sym, ap, ◌∙◌, subst}
use mathlib.Core.Bool.{Bool}
use Prim.Native.Nat.{ℕ, ◌+◌, ◌*◌, ◌^◌, ◌<◌}
use native.Mathlib.Omega.{arith}
use Rattle.bits.specs.Numbers.{bit, number}
use Rattle.bits.specs.Sets.{size, gather, spread}
use Rattle.bits.proofs.Building.{bool_digit, summed_fits, summed}
use Rattle.bits.proofs.Masks.{mask_most, mask_lt, mask_size, mask_spread, mask_gather}
use Rattle.bits.proofs.Walking.{Walked, walked_none, walked_more, walked_lt, walked_gather}
use Rattle.tables.proofs.Digits.{cut_none, part-word}
use Rattle.columns.specs.declared.split.Split.{Split}
use Rattle.splits.specs.Split.{reads_d}
use Rattle.columns.proofs.Reading.{held, below_mask}
use Rattle.charts.proofs.pair.d_word.Invariants.{M, D}
use Rattle.charts.proofs.pair.d_word.Goals as goal

-- what the first cells read, as a set and as a mask, and the bit of one at v
abbrev S : Split → ℕ → Bool
S s = reads_d (bit s.own) (bit s.shared)

-- the mask stands for the set
module _ (s : Split) where
  below : M s < 2 ^ s.n
  below = mask_lt s.n (S s) (M s) (below_mask s (held s))

  all : {many : ℕ} → many ≡ 2 ^ size s.n (bit (M s)) → many ≡ 2 ^ size s.n (S s)
  all e = e ∙ ap (λ (k : ℕ). 2 ^ k) (mask_size s.n (S s) (M s) (below_mask s (held s)))

  module _ {many x v : ℕ} (w : Walked s.n (M s) many x v) (l : v < many) where
    read : gather s.n (S s) x ≡ v
    read = sym (mask_gather s.n (S s) (M s) (below_mask s (held s)) x) ∙ walked_gather w l

    itself : x ≡ spread s.n (S s) (gather s.n (S s) x)
    itself = w.at ∙ mask_spread s.n (S s) (M s) (below_mask s (held s)) v ∙ ap (spread s.n (S s)) (sym read)

pub returns-then-many-from : goal.returns-then-many-from
returns-then-many-from c =
    let a = c.args in
    sym (cut_none (2 ^ size a.s.n (S a.s)) (64 * a.w) 64 (D a.t.now a.s a.which)
    (omega (arith, all a.s c.parts-many.ensures.0, c.if-many-from.true)))

pub loop-i-init : goal.loop-i-init
unfolding number
loop-i-init c =
    let none = walked_none {m = M c.args.s} c.args.s.most c.parts-many.ensures.0 in
    let e : 64 * c.args.w ≡ 64 * c.args.w + 0 = omega arith in (
      refl,
      record {
        all = none.all;
        few = none.few;
        upto = omega (arith, c.if-many-from.false);
        at = c.spread_out-x.ensures.0 ∙ ap (spread c.args.s.n (bit (M c.args.s))) e;
      },
    )

-- bit i comes in
pub overflow_add-r : goal.overflow_add-r
overflow_add-r c =
    let a = c.args in
    let q = c.loop-i in
    let inside : 64 * a.w + q.i < c.parts-many.result = omega (arith, c.min-i-end.ensures) in
    let gives = c.d_bit.ensures ∙ ap (D a.t.now a.s a.which) (read a.s q.invariant.1 inside) in
    omega (
      arith,
      summed_fits 64 (λ j. D a.t.now a.s a.which (64 * a.w + j)) (omega (arith, c.min-i-end.ensures))
          q.invariant.0 (bool_digit gives),
    )

pub loop-i-preserved : goal.loop-i-preserved
loop-i-preserved c =
    let a = c.args in
    let q = c.loop-i in
    let inside : 64 * a.w + q.i < c.parts-many.result = omega (arith, c.min-i-end.ensures) in
    let gives = c.d_bit.ensures ∙ ap (D a.t.now a.s a.which) (read a.s q.invariant.1 inside) in
    let e : 64 * a.w + q.i + 1 ≡ 64 * a.w + (q.i + 1) = omega arith in (
      summed 64 (λ j. D a.t.now a.s a.which (64 * a.w + j)) (omega (arith, c.min-i-end.ensures)) q.invariant.0
          (bool_digit gives),
      subst (λ (v : ℕ). Walked a.s.n (M a.s) c.parts-many.result c.next-x.result v) e
          (walked_more q.invariant.1 inside c.next-x.ensures.1),
    )

pub returns : goal.returns
returns c =
    let q = c.loop-i in
    let a = c.args in
    let k = size a.s.n (S a.s) in
    let F = D a.t.now a.s a.which in
    let many = all a.s c.parts-many.ensures.0 in
    let e : q.i ≡ c.min-i-end.result = omega arith in
    q.invariant.0 ∙ ap (λ (m : ℕ). number m (λ j. F (64 * a.w + j))) e
    ∙ part-word k a.w c.min-i-end.result F (omega (arith, c.min-i-end.ensures))
    (omega (arith, many, c.min-i-end.ensures))
    (λ l. omega (arith, many, c.min-i-end.ensures))

pub overflow_add-both : goal.overflow_add-both
overflow_add-both c =
    omega
    (arith, below c.args.s, mask_most c.args.s.most)

pub parts-many-requires : goal.parts-many-requires
parts-many-requires c = (c.args.s.most, below c.args.s)

pub overflow_mul-from : goal.overflow_mul-from
overflow_mul-from c = omega (arith, c.requires.w_bound.0)

pub spread_out-x-requires : goal.spread_out-x-requires
spread_out-x-requires c = c.args.s.most

pub d_bit-requires : goal.d_bit-requires
d_bit-requires c =
    let s = itself c.args.s c.loop-i.invariant.1 (omega (arith, c.min-i-end.ensures)) in
    record {
      x_read = (s, c.requires.w_bound.1, c.requires.w_bound.2);
      chart = c.requires.chart;
      limit_value = c.requires.limit_value;
    }

pub overflow_shl-r : goal.overflow_shl-r
overflow_shl-r c = omega (arith, c.min-i-end.ensures)

pub next-x-requires : goal.next-x-requires
next-x-requires c =
    let s = c.args.s in (s.most, below s, walked_lt c.loop-i.invariant.1)
