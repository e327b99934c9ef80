-- The loop keeps that the column is none of the first i. Assumes nothing.
use mathlib.Core.Path.{sym, ap, ◌∙◌}
use Prim.Native.Nat.{ℕ}
use native.Mathlib.Omega.{arith}
use borrow.Author.Count.{below_more, below_none}
use Rattle.std.proofs.Common.{Some}
use Rattle.bits.proofs.Masks.{mask_most}
use Rattle.bits.proofs.Places.{found_some, found_none}
use Rattle.tables.specs.Table.{table_bit}
use Rattle.splits.proofs.Stored.{seek_is, seek_none}
use Rattle.columns.proofs.Reading.{held, start, alike_column}
use Rattle.columns.proofs.columns.place.Invariants.{at}
use Rattle.columns.proofs.columns.place.Goals as goal

pub returns-then-same_column : goal.returns-then-same_column
returns-then-same_column c =
    let a = c.args in
    let p = c.requires.base_within in
    let i = c.loop-i.i in
    let own = c.requires.k_in_bounds in
    let e =
    seek_is (at a.t.now a.s a.base) a.seen.now a.k own.0 (at a.t.now a.s a.base a.z) i (omega arith) c.loop-i.invariant
    (sym (alike_column a.s (held a.s) (table_bit a.t.now) a.base p.0 a.z _ p.1 (own.1 i (omega arith)))
    ∙ sym c.same_column.ensures ∙ c.if-same_column.true)
    in ap (λ (i : ℕ). Some i) e ∙ found_some a.k _ (omega (arith, e))

pub returns : goal.returns
returns c =
    let a = c.args in
    let e =
    seek_none (at a.t.now a.s a.base) a.seen.now a.k c.requires.k_in_bounds.0 (at a.t.now a.s a.base a.z)
    (λ j h. c.loop-i.invariant j (omega arith)) in
    found_none a.k _ (omega (arith, e))

pub loop-i-init : goal.loop-i-init
loop-i-init c = below_none _

pub overflow_add-base : goal.overflow_add-base
overflow_add-base c =
    let p = c.requires.base_within in
    let a = c.args in
    omega (arith, (start a.s (held a.s) (table_bit a.t.now) a.base p.0 a.z p.1).below, mask_most a.s.most)

pub overflow_add-base-in-loop-i : goal.overflow_add-base-in-loop-i
overflow_add-base-in-loop-i c =
    let p = c.requires.base_within in
    omega (
      arith,
      (start c.args.s (held c.args.s) (table_bit c.args.t.now) c.args.base p.0 _
          (c.requires.k_in_bounds.1 c.loop-i.i (omega arith))).below,
      mask_most c.args.s.most,
    )

pub same_column-requires : goal.same_column-requires
same_column-requires c =
    let p = c.requires.base_within in
    let F = table_bit c.args.t.now in
    record {
      starts = (
        start c.args.s (held c.args.s) F c.args.base p.0 c.args.z p.1,
        start c.args.s (held c.args.s) F c.args.base p.0 _ (c.requires.k_in_bounds.1 c.loop-i.i (omega arith)),
      );
      n_bound = c.requires.n_bound;
    }

pub loop-i-preserved : goal.loop-i-preserved
loop-i-preserved c =
    let a = c.args in
    let p = c.requires.base_within in
    below_more _ _ c.loop-i.invariant
    (sym (alike_column a.s (held a.s) (table_bit a.t.now) a.base p.0 a.z _ p.1
    (c.requires.k_in_bounds.1 c.loop-i.i (omega arith)))
    ∙ sym c.same_column.ensures ∙ c.if-same_column.false)
