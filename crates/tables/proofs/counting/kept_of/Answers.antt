-- Those that count, unless none does: the larger of their mask and 1. Assumes nothing.
use mathlib.Core.Path.{ap, ◌∙◌}
use Prim.Native.Nat.{ℕ, max}
use Rattle.tables.specs.Table.{table_bit}
use Rattle.tables.proofs.Keeping.{kept_larger}
use Rattle.tables.proofs.counting.kept_of.Goals as goal

pub returns : goal.returns
returns c =
    c.max.ensures ∙ ap (λ (m : ℕ). max m 1) c.support_of.ensures
    ∙ kept_larger c.args.n (table_bit c.args.t.now)
