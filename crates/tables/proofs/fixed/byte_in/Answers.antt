-- The byte of the word at its place. Assumes nothing.
use Rattle.tables.proofs.Pieces.{word_byte}
use Rattle.tables.proofs.fixed.byte_in.Goals as goal

pub returns : goal.returns
returns c f e = word_byte f c.args.i c.args.w e
