-- The place read in the table is where the chart says. Assumes nothing.
use mathlib.Core.Path.{◌∙◌}
use Prim.Native.Nat.{ℕ, ◌+◌, ◌*◌, ◌/◌, ◌^◌, ◌<◌}
use native.Mathlib.Nat.{div-le_self}
use native.Mathlib.Omega.{arith}
use lib.ListN.{length, get_or}
use Rattle.bits.proofs.Masks.{mask_most, mask_lt}
use Rattle.columns.specs.declared.split.Split.{Split}
use Rattle.columns.specs.Reading.{last_reads}
use Rattle.columns.proofs.Reading.{held, beside_mask}
use Rattle.charts.proofs.Last.{last_spare, last_room, last_lt, last_bit}
use Rattle.charts.proofs.pair.h_bit.Lts as lts
use Rattle.charts.proofs.pair.h_bit.Reads as reads
use Rattle.charts.proofs.pair.h_bit.Tie as tie
use Rattle.charts.proofs.pair.h_bit.Goals as goal

beside_lt : (s : Split) → s.shared + s.free < 2 ^ s.n
beside_lt s = mask_lt s.n (last_reads s) (s.shared + s.free) (beside_mask s (held s))

pub returns-then-limit-d : goal.returns-then-limit-d
returns-then-limit-d c =
    last_spare (held c.args.s) c.requires.1 c.args.i c.parts-many.ensures.0 c.if-limit-d.true

-- where b is gathered, the place in the chart is inside it, and what stands there inside the table
module _ (c : lts.After-gather_in tie.the-claims reads.Pre reads.Post) where
  abbrev start : lts.Start tie.the-claims reads.Pre reads.Post
  start = c.before.before.before.before.before.before.before

  abbrev many : ℕ
  many = c.parts-many.result

  abbrev place : ℕ
  place = c.gather_in-b.result * start.args.limit + start.args.i / many

  inside : start.args.i / many < start.args.limit
  inside = omega (arith, c.if-limit-d.false)

  room : place < length start.args.seen.now
  room =
      last_room (held start.args.s) start.requires.1 start.args.i c.parts-many.ensures.0 inside
      c.spread_out-x.ensures.0 c.gather_in-b.ensures.0

  read : c.spread_out-x.result + get_or start.args.seen.now place 0 < 2 ^ start.args.s.n
  read =
      last_lt (held start.args.s) start.requires.1 start.args.i c.parts-many.ensures.0 inside
      c.spread_out-x.ensures.0 c.gather_in-b.ensures.0

pub returns : goal.returns
returns c =
    let g = start c.before.before.before in
    c.bit_at.ensures
    ∙ last_bit (held g.args.s) g.requires.1 g.args.i c.parts-many.ensures.0 (inside c.before.before.before)
    c.spread_out-x.ensures.0 c.gather_in-b.ensures.0

pub overflow_add-beside : goal.overflow_add-beside
overflow_add-beside c = let s = c.args.s in omega (arith, beside_lt s, mask_most s.most)

pub parts-many-requires : goal.parts-many-requires
parts-many-requires c = let s = c.args.s in (s.most, beside_lt s)

pub overflow_cast-d : goal.overflow_cast-d
overflow_cast-d c = omega (arith, div-le_self c.args.i c.parts-many.result)

pub overflow_mul-at : goal.overflow_mul-at
overflow_mul-at c = omega (arith, room c.before)

pub overflow_add-at : goal.overflow_add-at
overflow_add-at c = omega (arith, room c.before)

pub offset_bounds-seen-at : goal.offset_bounds-seen-at
offset_bounds-seen-at c = omega (arith, room c.before)

pub bounds-seen-at : goal.bounds-seen-at
bounds-seen-at c = omega (arith, room c.before.before)

pub overflow_cast-seen : goal.overflow_cast-seen
overflow_cast-seen c = omega (arith, c.type_inv.seen (place c.before.before))

pub overflow_add-x : goal.overflow_add-x
overflow_add-x c =
    omega (arith, read c.before.before, mask_most (start c.before.before).args.s.most)

pub bit_at-requires : goal.bit_at-requires
bit_at-requires c = omega (arith, read c.before.before, (start c.before.before).requires.0)
