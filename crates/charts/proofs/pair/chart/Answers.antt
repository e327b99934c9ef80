-- The loop keeps that the rows below b are charted. Assumes nothing.
use mathlib.Core.Path.{refl}
use Prim.Native.Nat.{◌+◌, ◌-◌, ◌*◌, ◌≤◌}
use native.Mathlib.Omega.{arith}
use lib.ListN.{length, drop, length-drop}
use lib.Seq.{length-take-le}
use Rattle.bits.proofs.Walking.{walked_none, walked_more, walked_lt, walked_turn, walked_end, walked_within}
use Rattle.charts.proofs.Codes.{few_at}
use Rattle.columns.proofs.Looking.{seen_at, seen_within}
use Rattle.charts.proofs.Charts.{charting_starts, charting_goes, charting_ends, row_room}
use Rattle.charts.proofs.pair.chart.Goals as goal

pub parts-b-end-requires : goal.parts-b-end-requires
parts-b-end-requires c = let p = c.args.s in (p.most, p.below_b)

pub loop-b-init : goal.loop-b-init
loop-b-init c = (
  charting_starts c.requires.shared_in_bounds.1,
  walked_none c.args.s.most c.parts-b-end.ensures.0,
)

-- row b has room
pub overflow_mul-from : goal.overflow_mul-from
overflow_mul-from c =
    let turn = walked_turn c.loop-b.invariant.1 (omega arith) in
    omega (arith, row_room c.args.limit _ _ c.loop-b.b turn c.requires.shared_in_bounds.0)

pub overflow_add-end : goal.overflow_add-end
overflow_add-end c =
    let turn = walked_turn c.loop-b.invariant.1 (omega arith) in
    omega (arith, row_room c.args.limit _ _ c.loop-b.b turn c.requires.shared_in_bounds.0)

pub offset_bounds-seen-from : goal.offset_bounds-seen-from
offset_bounds-seen-from c =
    let turn = walked_turn c.loop-b.invariant.1 (omega arith) in
    omega (arith, row_room c.args.limit _ _ c.loop-b.b turn c.requires.shared_in_bounds.0)

pub slice_bounds-look_through-end : goal.slice_bounds-look_through-end
slice_bounds-look_through-end c =
    let turn = walked_turn c.loop-b.invariant.1 (omega arith) in
    omega (arith, row_room c.args.limit _ _ c.loop-b.b turn c.requires.shared_in_bounds.0)

pub look_through-requires : goal.look_through-requires
look_through-requires c =
    let q = c.loop-b in
    let limit = c.args.limit in
    let turn = walked_turn q.invariant.1 (omega arith) in
    let from = q.b * limit in
    let room : from + limit ≤ length c.args.seen.now =
    omega (arith, row_room limit _ _ q.b turn c.requires.shared_in_bounds.0) in
    let part = length-take-le (from + limit - from) (drop from q.seen)
    (omega (arith, room, length-drop from q.seen)) in
    record {
      base_within = (walked_within q.invariant.1 (omega arith), omega (arith, part), omega arith);
      n_bound = c.requires.limit_bound.1;
    }

pub loop-b-preserved : goal.loop-b-preserved
loop-b-preserved c =
    let q = c.loop-b in
    let a = c.args in
    let turn = walked_turn q.invariant.1 (omega arith) in
    let from = q.b * a.limit in
    let seen = seen_at q.invariant.1 (omega arith) c.look_through.ensures.seen in
    let few = few_at a.s.n _ _ _ a.limit c.requires.limit_value q.b turn in (
      charting_goes q.invariant.0 from (from + a.limit - from) _ refl
          (row_room a.limit _ _ q.b turn c.requires.shared_in_bounds.0) (omega arith) seen
          (seen_within q.invariant.1 (omega arith) c.look_through.ensures.seen few) c.look_through.auto.seen,
      walked_more q.invariant.1 (omega arith) c.next-base.ensures.1,
    )

pub returns : goal.returns
returns c =
    let i = c.loop-b.invariant in
    charting_ends i.0 (walked_end i.1 (omega arith)) c.requires.shared_in_bounds.0

pub next-base-requires : goal.next-base-requires
next-base-requires c = let p = c.args.s in (p.most, p.below_b, walked_lt c.loop-b.invariant.1)
