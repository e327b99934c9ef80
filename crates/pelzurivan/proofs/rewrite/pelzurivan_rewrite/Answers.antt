-- `pelzurivan_rewrite` meets its contract: the number and the values are those of the call's outcome. Assumes nothing.
use mathlib.Core.Path.{refl}
use Rattle.pelzurivan.proofs.rewrite.pelzurivan_rewrite.Goals as goal

pub returns : goal.returns
returns c = rw (c.from.ensures, ← c.rewrite.ensures) (refl, refl)
