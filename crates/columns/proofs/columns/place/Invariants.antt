use mathlib.Core.Path.{◌≡◌}
use mathlib.Core.Bool.{false}
use mathlib.Core.List.{List}
use Prim.Native.Nat.{ℕ, ◌<◌}
use lib.Dec.{eqb}
use lib.ListN.{get_or}
use Rattle.tables.specs.Table.{table_bit}
use Rattle.columns.specs.declared.split.Split.{Split}
use Rattle.columns.specs.Reading.{shared_part, column_at}
use Rattle.columns.proofs.columns.place.Given as goal

-- the column at z, for the shared assignment in base
abbrev pub at : List ℕ → Split → ℕ → ℕ → ℕ
at t s base z = column_at s (table_bit t) (shared_part s base) z

abbrev pub invariant-loop-i : goal.invariant-loop-i
invariant-loop-i l = (j : ℕ) → j < l.i → eqb (at l.t l.s l.base l.z) (at l.t l.s l.base (get_or l.seen j 0)) ≡ false
