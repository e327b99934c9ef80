-- Each turn marks the column of one more point. Assumes nothing.
use lib.Bits.{xor_lt}
use Rattle.bits.proofs.Walking.{walked_none, walked_more, walked_lt}
use Rattle.witness.proofs.Many.{seen_none, seen_more}
use Rattle.witness.proofs.crowd.seen.Goals as goal

pub parts-many-requires : goal.parts-many-requires
parts-many-requires c = (c.requires.0, c.requires.3)

pub loop-v-init : goal.loop-v-init
loop-v-init c = (walked_none c.requires.0 c.parts-many.ensures.0, seen_none)

pub mark-r-requires : goal.mark-r-requires
mark-r-requires c = (
  c.requires.0,
  c.requires.1,
  xor_lt c.args.n c.args.w.base _ c.requires.2
      (walked_lt c.loop-v.invariant.0),
  c.requires.4,
  c.requires.5,
)

pub next-x-requires : goal.next-x-requires
next-x-requires c = (c.requires.0, c.requires.3, walked_lt c.loop-v.invariant.0)

pub loop-v-preserved : goal.loop-v-preserved
loop-v-preserved c =
    let l = c.loop-v in (
      walked_more l.invariant.0 c.loop-v-test.true c.next-x.ensures.1,
      seen_more l.r c.mark-r.result l.x l._v l.invariant.1 c.requires.2 (walked_lt l.invariant.0)
          l.invariant.0.at c.mark-r.ensures,
    )

pub returns : goal.returns
returns c = c.loop-v.invariant.1
