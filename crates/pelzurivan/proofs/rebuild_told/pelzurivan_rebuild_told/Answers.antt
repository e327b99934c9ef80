-- `pelzurivan_rebuild_told` meets its contract: the number and the values are those of the call's outcome. Assumes
-- nothing.
use mathlib.Core.Path.{refl}
use Rattle.pelzurivan.proofs.rebuild_told.pelzurivan_rebuild_told.Goals as goal

pub returns : goal.returns
returns c = rw (c.from.ensures, ← c.rebuild_told.ensures) (refl, refl)
