-- `pelzurivan_run` meets its contract: the number and the values are those of the call's outcome. Assumes nothing.
use mathlib.Core.Path.{refl}
use Rattle.pelzurivan.proofs.run_sheet.pelzurivan_run.Goals as goal

pub returns : goal.returns
returns c = rw (c.from.ensures, ← c.run_sheet.ensures) refl
