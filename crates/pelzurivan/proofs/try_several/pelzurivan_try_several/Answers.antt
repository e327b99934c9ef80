-- `pelzurivan_try_several` meets its contract: the number and the values are those of the call's outcome. Assumes
-- nothing.
use mathlib.Core.Path.{refl}
use Rattle.pelzurivan.proofs.try_several.pelzurivan_try_several.Goals as goal

pub returns : goal.returns
returns c = rw (c.from.ensures, ← c.try_several.ensures) (refl, refl)
