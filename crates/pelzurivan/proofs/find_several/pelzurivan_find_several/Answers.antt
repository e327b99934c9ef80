-- `pelzurivan_find_several` meets its contract: the number and the values are those of the call's outcome. Assumes
-- nothing.
use mathlib.Core.Path.{refl}
use Rattle.pelzurivan.proofs.find_several.pelzurivan_find_several.Goals as goal

pub returns : goal.returns
returns c = rw (c.from.ensures, ← c.find_several.ensures) (refl, refl)
