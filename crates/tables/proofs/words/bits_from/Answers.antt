-- A shift takes the bits before p away, of a short table's one word and of a long table's. Assumes nothing.
use native.Mathlib.Omega.{arith}
use Rattle.tables.proofs.Joining.{stretch_short, stretch_long}
use Rattle.tables.proofs.words.bits_from.Goals as goal

pub returns-then-many-lt8 : goal.returns-then-many-lt8
returns-then-many-lt8 c =
    λ k h. stretch_short c.args.t.now c.args.p c.joined.result k (c.requires.short (omega arith))
    c.joined.ensures h

pub returns : goal.returns
returns c = λ k h. stretch_long c.args.t.now c.args.p c.joined-2.result k c.joined-2.ensures h

pub joined-requires-2 : goal.joined-requires-2
joined-requires-2 c = (c.requires.long (omega arith), omega arith)
