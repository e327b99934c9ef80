-- `pelzurivan_make_told` meets its contract: the number and the values are those of the call's outcome. Assumes
-- nothing.
use mathlib.Core.Path.{refl}
use Rattle.pelzurivan.proofs.make_told.pelzurivan_make_told.Goals as goal

pub returns : goal.returns
returns c = rw (c.from.ensures, ← c.make_told.ensures) (refl, refl, refl)
