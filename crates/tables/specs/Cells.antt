-- The table of a cell as words: the first edition's cells need one, those of eight inputs four.
use Rattle.std.specs.Prelude.{Bool, List, ℕ, ◌*◌, ◌/◌, ◌%◌, get_or, replicate}
use Rattle.bits.specs.Numbers.{bit, number}
use Rattle.bits.specs.Lists.{list_of}
use Rattle.tables.specs.declared.cell.CellTable.{CellTable}
use Rattle.tables.specs.Words.{gate_word}

-- room for the table of a cell of 8 inputs, 2 ^ 8 bits
abbrev pub cell_words : ℕ
cell_words = 4

-- the number that c words make, the first as its lowest 64 bits
unfoldable pub joined : ℕ → List ℕ → ℕ
joined c ws = number (64 * c) (λ x. bit (get_or ws (x / 64) 0) (x % 64))

-- the first c words of the table of k inputs, 0 from 2 ^ k on
abbrev pub words_of : ℕ → ℕ → (ℕ → Bool) → List ℕ
words_of c k F = list_of c (gate_word k F)

-- the table of F of k inputs as the code holds it
abbrev pub held_table : ℕ → (ℕ → Bool) → CellTable
held_table k F = record { words = words_of cell_words k F }

-- a table so held, as a number
abbrev pub table_number : CellTable → ℕ
table_number c = joined cell_words c.words

-- no bit is set
abbrev pub no_table : CellTable
no_table = record { words = replicate cell_words 0 }
