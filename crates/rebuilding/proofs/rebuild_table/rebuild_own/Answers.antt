-- `rebuild_own` meets its contract: the desk handed down is the sheet's own. Assumes nothing.
use mathlib.Core.Path.{ap, ◌∙◌}
use Prim.Native.Nat.{ℕ}
use Rattle.rebuilding.specs.RebuildTable.{rebuild_outcome}
use Rattle.rebuilding.proofs.rebuild_table.rebuild_own.Goals as goal

pub returns : goal.returns
returns c =
    let a = c.args in
    c.rebuild_in.ensures ∙ ap (λ (d : ℕ). rebuild_outcome a.e d a.n a.s.now a.table.now)
    c.desk_of.ensures
