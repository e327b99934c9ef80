-- `pelzurivan_make_for_desk` meets its contract: the number and the values are those of the call's outcome. Assumes
-- nothing.
use mathlib.Core.Path.{refl}
use Rattle.pelzurivan.proofs.make_sheet.pelzurivan_make_for_desk.Goals as goal

pub returns : goal.returns
returns c = rw (c.from.ensures, ← c.make_for_desk.ensures) (refl, refl, refl)
