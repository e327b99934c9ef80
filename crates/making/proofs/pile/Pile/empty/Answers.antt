-- An empty sheet has no cells. Assumes nothing.
use mathlib.Core.Path.{refl}
use Rattle.making.proofs.pile.Pile.empty.Goals as goal

pub returns : goal.returns
returns c =
    record {
      count = refl;
      held = λ h. c.empty.ensures.1;
    }
