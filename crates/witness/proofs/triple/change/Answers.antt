-- Both words lie in the table, and where they differ the bit changes. Assumes nothing.
use Rattle.std.proofs.Common.{◌∙◌, ap₂}
use lib.Bits.{or_lt}
use Rattle.tables.proofs.Pieces.{word_at}
use Rattle.witness.specs.Points.{differ}
use Rattle.witness.proofs.Members.{bit-xor}
use Rattle.witness.proofs.triple.change.Goals as goal

pub bits_from-requires : goal.bits_from-requires
bits_from-requires c =
    word_at c.args.n c.args.t.now _ c.requires.0.long
    (or_lt c.args.n c.args.x c.args.s c.requires.1 c.requires.2)

pub bits_from-requires-2 : goal.bits_from-requires-2
bits_from-requires-2 c = word_at c.args.n c.args.t.now _ c.requires.0.long c.requires.1

pub returns : goal.returns
returns c k h h' = bit-xor _ _ k ∙ ap₂ differ (c.bits_from.ensures k h') (c.bits_from-2.ensures k h)
