-- By K and by how many are left. Assumes nothing.
use mathlib.Core.Logic.{⊎_elim}
use native.Mathlib.Omega.{arith}
use Rattle.selectors.proofs.Widths.{ones-next, last_next, twos_next}
use Rattle.selectors.proofs.levels.width.Goals as goal

pub returns-then-left-lt2 : goal.returns-then-left-lt2
returns-then-left-lt2 c =
    ⊎_elim (λ h. ones-next _ _ (omega arith) (omega arith))
    (λ h. last_next _ _ (omega arith) (omega arith) (omega arith)) c.if-left-lt2.either

pub returns-else-left-lt2 : goal.returns-else-left-lt2
returns-else-left-lt2 c = let h = c.if-left-lt2.false in twos_next _ _ (omega arith) (omega arith)
