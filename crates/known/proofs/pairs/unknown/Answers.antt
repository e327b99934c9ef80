-- An empty table of pairs says nothing. Assumes nothing.
use Rattle.known.proofs.Keeping.{pairs-blank}
use Rattle.known.proofs.pairs.unknown.Goals as goal

pub returns : goal.returns
returns c n m F = pairs-blank
