-- `pelzurivan_turn` meets its contract: the number and the way are those of the call's outcome. Assumes nothing.
use mathlib.Core.Path.{refl}
use Rattle.pelzurivan.proofs.turn.pelzurivan_turn.Goals as goal

pub returns : goal.returns
returns c = rw (c.from.ensures, ← c.turn.ensures) refl
