-- `check_own` meets its contract: the desk handed down is the sheet's own. Assumes nothing.
use mathlib.Core.Path.{ap, ◌∙◌}
use Prim.Native.Nat.{ℕ}
use Rattle.inspection.specs.CheckSheet.{check_outcome}
use Rattle.inspection.proofs.check_sheet.check_own.Goals as goal

pub returns : goal.returns
returns c =
    let a = c.args in
    c.check_in.ensures ∙ ap (λ (d : ℕ). check_outcome a.e d a.n a.t.now a.s.now)
    c.desk_of.ensures
