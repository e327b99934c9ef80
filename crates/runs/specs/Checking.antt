-- A sheet held against a table.
use Rattle.std.specs.Prelude.{Bool, not, List, ℕ, ◌^◌}
use Rattle.std.specs.Bool.{beq}
use Rattle.bits.specs.Numbers.{bit}
use Rattle.bits.specs.Below.{least}
use Rattle.tables.specs.Table.{table_bit}
use Rattle.sheets.specs.declared.kinds.Edition.{Edition}
use Rattle.sheets.specs.Sheet.{sheet_bit}

-- a sheet of m records and the table t differ at the assignment x
abbrev pub differs : Edition → ℕ → List ℕ → ℕ → List ℕ → ℕ → Bool
differs e n s m t x = not (beq (sheet_bit e n s m x) (table_bit t x))

-- the least assignment at which they do, and 2 ^ n where there is none
abbrev pub first_difference : Edition → ℕ → List ℕ → ℕ → List ℕ → ℕ
first_difference e n s m t = least (2 ^ n) (differs e n s m t)

-- two words differ at place i
abbrev pub apart : ℕ → ℕ → ℕ → Bool
apart a b i = not (beq (bit a i) (bit b i))
