-- `pelzurivan_rebuild` meets its contract: the number and the values are those of the call's outcome. Assumes nothing.
use mathlib.Core.Path.{refl}
use Rattle.pelzurivan.proofs.rebuild_table.pelzurivan_rebuild.Goals as goal

pub returns : goal.returns
returns c = rw (c.from.ensures, ← c.rebuild_table.ensures) (refl, refl)
