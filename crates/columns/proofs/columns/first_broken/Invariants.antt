use mathlib.Core.Path.{◌≡◌}
use mathlib.Core.Bool.{Bool}
use mathlib.Core.List.{List}
use Prim.Native.Nat.{ℕ}
use lib.Dec.{ltb}
use lib.ListN.{length}
use Rattle.bits.specs.Below.{least}
use Rattle.bits.proofs.Walking.{Walked}
use Rattle.tables.specs.Table.{table_bit}
use Rattle.columns.specs.declared.split.Split.{Split}
use Rattle.splits.specs.Columns.{most_columns}
use Rattle.columns.specs.Reading.{columns_of}
use Rattle.columns.proofs.columns.first_broken.Given as goal

-- the test at one shared assignment
abbrev pub many : List ℕ → Split → ℕ → ℕ → Bool
many t s limit b = ltb limit (length (columns_of s (table_bit t) b))

abbrev pub invariant-loop-b : goal.invariant-loop-b
invariant-loop-b l =
    (least l.b (many l.t l.s l.limit) ≡ l.b) × Walked l.s.n l.s.shared l.b-end l.base l.b × (length l.seen ≡ most_columns)
