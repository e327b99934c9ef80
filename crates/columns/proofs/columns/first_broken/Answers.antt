-- The loop keeps that none of the first b shared assignments breaks. Assumes nothing.
use mathlib.Core.Path.{◌≡◌, refl, sym, ap, ◌∙◌, subst}
use Prim.Native.Nat.{ℕ}
use native.Mathlib.Omega.{arith}
use Rattle.std.proofs.Common.{Some}
use Rattle.bits.specs.Below.{least}
use Rattle.bits.proofs.Least.{least_more, least_stop}
use Rattle.bits.proofs.Places.{found_some, found_none}
use Rattle.bits.proofs.Walking.{walked_none, walked_more, walked_lt, walked_turn, walked_end, walked_within}
use Rattle.tables.specs.Table.{table_bit}
use Rattle.splits.specs.Columns.{first_broken}
use Rattle.columns.proofs.Looking.{seen_few, seen_many}
use Rattle.columns.proofs.columns.first_broken.Invariants.{many}
use Rattle.columns.proofs.columns.first_broken.Goals as goal

pub look_through-requires : goal.look_through-requires
look_through-requires c =
    let p = c.requires in
    record {
      base_within = (walked_within c.loop-b.invariant.1 (omega arith), omega arith, omega arith);
      n_bound = p.1;
    }

pub returns-then-is_none : goal.returns-then-is_none
unfolding first_broken
returns-then-is_none c =
    let a = c.args in
    let i = c.loop-b.invariant in
    let e = sym (least_stop _ _ (many a.t.now a.s a.limit) i.0
    (seen_many a.s (table_bit a.t.now) a.limit i.1 (omega arith) c.look_through.ensures.counted c.is_none.ensures
    c.if-is_none.true)
    (walked_turn i.1 (omega arith))) in
    ap (λ (b : ℕ). Some b) e ∙ found_some _ _ (omega (arith, e, walked_turn i.1 (omega arith)))

pub loop-b-preserved : goal.loop-b-preserved
loop-b-preserved c =
    let a = c.args in
    let i = c.loop-b.invariant in (
      least_more _ (many a.t.now a.s a.limit) i.0
          (seen_few a.s (table_bit a.t.now) a.limit i.1 (omega arith) c.look_through.ensures.counted c.is_none.ensures
          c.if-is_none.false),
      walked_more i.1 (omega arith) c.next-base.ensures.1,
      c.look_through.auto.seen ∙ i.2,
    )

pub returns : goal.returns
unfolding first_broken
returns c =
    let i = c.loop-b.invariant in
    let a = c.args in
    let e = walked_end i.1 (omega arith) in
    found_none _ _ (omega (arith, subst (λ (m : ℕ). least m (many a.t.now a.s a.limit) ≡ m) e i.0))

pub parts-b-end-requires : goal.parts-b-end-requires
parts-b-end-requires c = let p = c.args.s in (p.most, p.below_b)

pub loop-b-init : goal.loop-b-init
unfolding least
loop-b-init c = (refl, walked_none c.args.s.most c.parts-b-end.ensures.0, refl)

pub next-base-requires : goal.next-base-requires
next-base-requires c = let p = c.args.s in (p.most, p.below_b, walked_lt c.loop-b.invariant.1)
