-- `pelzurivan_bound` meets its contract: the number and the value are those of the call's outcome. Assumes nothing.
use mathlib.Core.Path.{refl}
use Rattle.pelzurivan.proofs.bound.pelzurivan_bound.Goals as goal

pub returns : goal.returns
returns c = rw (c.from.ensures, ← c.bound_cells.ensures) (refl, refl)
