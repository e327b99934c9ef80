-- The tables of the first cells of a split, as they are handed back.
use Rattle.std.specs.Prelude.{Bool, cond, ℕ, zero, suc, ltb}
use Rattle.charts.specs.declared.pair.FirstCells.{FirstCells}
use Rattle.bits.specs.Numbers.{bit}
use Rattle.bits.specs.Sets.{size}
use Rattle.tables.specs.declared.cell.CellTable.{CellTable}
use Rattle.tables.specs.Cells.{held_table, no_table, table_number}
use Rattle.splits.specs.Split.{reads_d}
use Rattle.splits.specs.Pair.{code_at}

-- first cell t gives bit t of the code
abbrev pub bit_d : ℕ → (ℕ → Bool) → (ℕ → Bool) → (ℕ → Bool) → ℕ → ℕ → Bool
bit_d n F A B t v = bit (code_at n F A B v) t

-- its table as it is held
abbrev pub held_d : ℕ → (ℕ → Bool) → (ℕ → Bool) → (ℕ → Bool) → ℕ → CellTable
held_d n F A B t = held_table (size n (reads_d A B)) (bit_d n F A B t)

-- the table of first cell t, of r: those from r up are 0
abbrev pub first_table : ℕ → (ℕ → Bool) → (ℕ → Bool) → (ℕ → Bool) → ℕ → ℕ → CellTable
first_table n F A B r t = cond (ltb t r) (held_d n F A B t) no_table

-- all of them
abbrev pub first_cells : ℕ → (ℕ → Bool) → (ℕ → Bool) → (ℕ → Bool) → ℕ → FirstCells
first_cells n F A B r = record {
  first = first_table n F A B r 0;
  second = first_table n F A B r 1;
  third = first_table n F A B r 2;
}

-- none is there
abbrev pub no_cells : FirstCells
no_cells = record { first = no_table; second = no_table; third = no_table }

-- the table of first cell t among those handed back, as a number
abbrev pub table_in : FirstCells → ℕ → ℕ
table_in d zero = table_number d.first
table_in d (suc zero) = table_number d.second
table_in d (suc (suc zero)) = table_number d.third
table_in d (suc (suc (suc t))) = 0
