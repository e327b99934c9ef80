-- `pelzurivan_load_cut` meets its contract: the number and the values are those of the call's outcome. Assumes nothing.
use mathlib.Core.Path.{refl}
use Rattle.pelzurivan.proofs.load_cut.pelzurivan_load_cut.Goals as goal

pub returns : goal.returns
returns c = rw (c.from.ensures, ← c.load_cut.ensures) (refl, refl)
