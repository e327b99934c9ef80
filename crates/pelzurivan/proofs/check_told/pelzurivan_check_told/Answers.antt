-- `pelzurivan_check_told` meets its contract: the number and the values are those of the call's outcome. Assumes
-- nothing.
use mathlib.Core.Path.{refl}
use Rattle.pelzurivan.proofs.check_told.pelzurivan_check_told.Goals as goal

pub returns : goal.returns
returns c = rw (c.from.ensures, ← c.check_told.ensures) refl
