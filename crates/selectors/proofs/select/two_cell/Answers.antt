-- Its first two places are its signals. Assumes nothing.
use Rattle.bits.specs.Lists.{list_of}
use Rattle.selectors.proofs.select.two_cell.Goals as goal

pub returns : goal.returns
unfolding list_of
returns c = c.word_cell.ensures
