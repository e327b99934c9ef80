-- A note that rules out takes the place of one that did. Assumes nothing.
use Rattle.known.proofs.Keeping.{learned_put}
use Rattle.known.proofs.notes.Notes.keep.Goals as goal

pub returns : goal.returns
returns c n m F w r = learned_put c.args.self.now c.place-at.result _ c.args.note w r
