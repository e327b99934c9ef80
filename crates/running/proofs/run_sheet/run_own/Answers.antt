-- `run_own` meets its contract: the desk handed down is the sheet's own. Assumes nothing.
use mathlib.Core.Path.{ap, ◌∙◌}
use Prim.Native.Nat.{ℕ}
use Rattle.running.specs.RunSheet.{run_outcome}
use Rattle.running.proofs.run_sheet.run_own.Goals as goal

pub returns : goal.returns
returns c =
    let a = c.args in
    c.run_in.ensures ∙ ap (λ (d : ℕ). run_outcome a.e d a.n a.s.now a.x) c.desk_of.ensures
