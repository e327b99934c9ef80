-- The loop keeps what is known of the first a columns. Assumes nothing.
use mathlib.Core.Path.{sym, subst₂}
use mathlib.Core.List.{List}
use Prim.Native.Nat.{ℕ, ◌+◌}
use native.Mathlib.Omega.{arith}
use Rattle.bits.specs.Numbers.{bit}
use Rattle.bits.specs.Sets.{gather}
use Rattle.bits.proofs.Masks.{mask_most}
use Rattle.bits.proofs.Walking.{walked_none, walked_more, walked_lt, walked_end, walked_within}
use Rattle.tables.specs.Table.{table_bit}
use Rattle.columns.proofs.Looking.{
  SoFar,
  looking_starts,
  looking_old,
  looking_new,
  looking_stops,
  looking_ends,
  counted_few,
  counted_over,
}
use Rattle.columns.proofs.columns.look_through.Goals as goal
use Rattle.columns.proofs.columns.look_through.Goals.{then-is_none+else-k-limit, else-is_none}

pub place-requires : goal.place-requires
place-requires c =
    let q = c.loop-a in
    let p = c.requires in
    record {
      base_within = (p.base_within.0, walked_within q.invariant.1 (omega arith));
      n_bound = p.n_bound;
      k_in_bounds = (omega (arith, q.invariant.0.few, q.invariant.0.long), q.invariant.0.own);
    }

pub returns-then-k-limit : goal.returns-then-k-limit
returns-then-k-limit c =
    let i = c.loop-a.invariant in
    let seen = looking_stops i.0 c.requires.base_within.1 i.1 (omega arith) c.place.ensures c.is_none.ensures
    c.if-is_none.true c.if-k-limit.true
    in record { counted = counted_over seen; seen = seen }

pub overflow_cast-seen : goal.overflow_cast-seen
overflow_cast-seen c =
    omega (arith, walked_lt c.loop-a.invariant.1, mask_most c.args.s.most)

pub loop-a-preserved : goal.loop-a-preserved
loop-a-preserved c =
    let q = c.loop-a in
    let a = c.args in
    let room = c.requires.base_within.1 in
    let So : List ℕ → ℕ → Type 0 = λ l k. SoFar a.s (table_bit a.t.now)
    (gather a.s.n (bit a.s.shared) a.base) a.limit a.seen.now l k (q._a + 1) in (
      elim c.if-is_none.branch [
        | then-is_none+else-k-limit u ↦ subst₂ So (sym u.seen-is) (sym u.k-is)
            (looking_new q.invariant.0 room q.invariant.1 (omega arith) c.place.ensures c.is_none.ensures
            u.if-is_none.true u.if-k-limit.false)
        | else-is_none u ↦ subst₂ So (sym u.seen-is) (sym u.k-is)
            (looking_old q.invariant.0 room q.invariant.1 (omega arith) c.place.ensures c.is_none.ensures
            u.if-is_none.false)
      ],
      walked_more q.invariant.1 (omega arith) c.next-z.ensures.1,
    )

pub returns : goal.returns
returns c =
    let i = c.loop-a.invariant in
    let seen = looking_ends i.0 c.requires.base_within.1 (walked_end i.1 (omega arith)) in
    record { counted = counted_few i.0.few seen; seen = seen }

pub parts-a-end-requires : goal.parts-a-end-requires
parts-a-end-requires c = let p = c.args.s in (p.most, p.below_a)

pub loop-a-init : goal.loop-a-init
loop-a-init c = (looking_starts, walked_none c.args.s.most c.parts-a-end.ensures.0)

pub next-z-requires : goal.next-z-requires
next-z-requires c =
    let p = c.args.s in (p.most, p.below_a, walked_lt c.loop-a.invariant.1)
