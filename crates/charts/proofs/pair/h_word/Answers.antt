-- The word is that of the column's table over the free inputs, and past the last column there is nothing. Assumes
-- nothing.
use mathlib.Core.Path.{◌∙◌}
use Prim.Native.Nat.{ℕ, ◌/◌, ◌<◌}
use native.Mathlib.Nat.{div-le_self, mod-lt}
use native.Mathlib.Omega.{arith}
use lib.ListN.{length}
use Rattle.columns.proofs.Reading.{held, free_lt}
use Rattle.charts.proofs.LastWords.{each_some, word_past, column_room, column_lt, column_apart, column_word}
use Rattle.charts.proofs.pair.h_word.Lts as lts
use Rattle.charts.proofs.pair.h_word.Reads as reads
use Rattle.charts.proofs.pair.h_word.Tie as tie
use Rattle.charts.proofs.pair.h_word.Goals as goal

module _ (c : lts.After-parts tie.the-claims reads.Pre reads.Post) where
  abbrev g : lts.Start tie.the-claims reads.Pre reads.Post
  g = c.before.before.before

  some : 0 < c.parts-each.result / 64
  some = each_some (held g.args.s) g.requires.1 g.requires.2 g.requires.3 g.args.i c.parts-each.ensures.0

-- the column that is read
module _ (c : lts.Else1 tie.the-claims reads.Pre reads.Post) where
  abbrev b : lts.After-parts tie.the-claims reads.Pre reads.Post
  b = c.before

  abbrev d : ℕ
  d = (g b).args.i / (b.parts-each.result / 64)

  within : d < (g b).args.limit
  within = omega (arith, c.if-limit-d.false)

  room : d < length (g b).args.seen.now
  room = column_room (held (g b).args.s) (g b).requires.1 (g b).requires.2 (g b).requires.3 (g b).args.i b.parts-each.ensures.0
      within

pub returns-then-limit-d : goal.returns-then-limit-d
returns-then-limit-d c =
    word_past (held (g c.before.before).args.s) (g c.before.before).requires.1 (g c.before.before).requires.2 (g c.before.before).requires.3 (g c.before.before).args.i c.parts-each.ensures.0
    c.if-limit-d.true

pub word_over-requires : goal.word_over-requires
word_over-requires c =
    let p = (g (b c.before.before)).requires in
    let s = (g (b c.before.before)).args.s in
    let h = held s in
    let i = (g (b c.before.before)).args.i in
    let all = (b c.before.before).parts-each.ensures.0 in (
      p.0,
      s.most,
      free_lt s h,
      column_lt h p.1 p.2 p.3 i all (within c.before.before),
      column_apart h p.1 p.2 p.3 i all (within c.before.before),
      omega (arith, mod-lt i (some (b c.before.before)), (b c.before.before).parts-each.ensures.2),
    )

pub returns : goal.returns
returns c r q =
    let p = (g (b c.before.before.before)).requires in
    c.word_over.ensures ∙ column_word (held (g (b c.before.before.before)).args.s) p.1 p.2 p.3 (g (b c.before.before.before)).args.i (b c.before.before.before).parts-each.ensures.0
    (within c.before.before.before) r q

pub parts-each-requires : goal.parts-each-requires
parts-each-requires c = let s = c.args.s in (s.most, free_lt s (held s))

pub nonzero_div-d : goal.nonzero_div-d
nonzero_div-d c = omega (arith, some c.before)

pub overflow_cast-d : goal.overflow_cast-d
overflow_cast-d c = omega (arith, div-le_self (g c.before).args.i (c.parts-each.result / 64))

pub offset_bounds-seen-d : goal.offset_bounds-seen-d
offset_bounds-seen-d c = omega (arith, room c.before)

pub bounds-seen-d : goal.bounds-seen-d
bounds-seen-d c = omega (arith, room c.before.before)

pub overflow_cast-seen : goal.overflow_cast-seen
overflow_cast-seen c = omega (arith, c.type_inv.seen (d c.before.before))

pub nonzero_rem-i : goal.nonzero_rem-i
nonzero_rem-i c = omega (arith, some (b c.before.before))
