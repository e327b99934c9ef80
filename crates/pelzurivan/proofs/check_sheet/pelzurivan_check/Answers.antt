-- `pelzurivan_check` meets its contract: the number and the place are those of the call's outcome. Assumes nothing.
use mathlib.Core.Path.{refl}
use Rattle.pelzurivan.proofs.check_sheet.pelzurivan_check.Goals as goal

pub returns : goal.returns
returns c = rw (c.from.ensures, ← c.check_sheet.ensures) refl
