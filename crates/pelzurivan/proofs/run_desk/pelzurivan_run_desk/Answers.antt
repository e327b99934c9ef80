-- `pelzurivan_run_desk` meets its contract: the number and the values are those of the call's outcome. Assumes nothing.
use mathlib.Core.Path.{refl}
use Rattle.pelzurivan.proofs.run_desk.pelzurivan_run_desk.Goals as goal

pub returns : goal.returns
returns c = rw (c.from.ensures, ← c.run_desk.ensures) refl
