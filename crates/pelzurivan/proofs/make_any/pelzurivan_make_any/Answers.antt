-- `pelzurivan_make_any` meets its contract: the number and the values are those of the call's outcome. Assumes nothing.
use mathlib.Core.Path.{refl}
use Rattle.pelzurivan.proofs.make_any.pelzurivan_make_any.Goals as goal

pub returns : goal.returns
returns c = rw (c.from.ensures, ← c.make_any.ensures) (refl, refl, refl)
