-- `pelzurivan_load_store` meets its contract: the number and the values are those of the call's outcome. Assumes
-- nothing.
use mathlib.Core.Path.{refl}
use Rattle.pelzurivan.proofs.load_store.pelzurivan_load_store.Goals as goal

pub returns : goal.returns
returns c = rw (c.from.ensures, ← c.load_store.ensures) (refl, refl)
