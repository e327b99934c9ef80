-- `pelzurivan_load` meets its contract: the number and the values are those of the call's outcome. Assumes nothing.
use mathlib.Core.Path.{refl}
use Rattle.pelzurivan.proofs.load_desk.pelzurivan_load.Goals as goal

pub returns : goal.returns
returns c = rw (c.from.ensures, ← c.load_desk.ensures) (refl, refl)
