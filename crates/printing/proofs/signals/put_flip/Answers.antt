-- `put_flip` meets its contract. Assumes nothing.
use Rattle.printing.proofs.Staging.{flip-room, flip_yes, flip_no}
use Rattle.printing.proofs.signals.put_flip.Goals as goal

pub put-requires : goal.put-requires
put-requires c = flip-room _ _ _ c.if-flip.true c.requires

pub returns-then-flip : goal.returns-then-flip
returns-then-flip c = flip_yes c.if-flip.true c.put.ensures

pub returns : goal.returns
returns c = flip_no c.if-flip.false
