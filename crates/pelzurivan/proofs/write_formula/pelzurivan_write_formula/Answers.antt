-- `pelzurivan_write_formula` meets its contract: the number and the values are those of the call's outcome. Assumes
-- nothing.
use mathlib.Core.Path.{refl}
use Rattle.pelzurivan.proofs.write_formula.pelzurivan_write_formula.Goals as goal

pub returns : goal.returns
returns c = rw (c.from.ensures, ← c.write_formula.ensures) (refl, refl)
