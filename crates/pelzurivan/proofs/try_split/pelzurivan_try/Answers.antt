-- `pelzurivan_try` meets its contract: the number and the values are those of the call's outcome. Assumes nothing.
use mathlib.Core.Path.{refl}
use Rattle.pelzurivan.proofs.try_split.pelzurivan_try.Goals as goal

pub returns : goal.returns
returns c = rw (c.from.ensures, ← c.try_split.ensures) (refl, refl)
