-- The work area that is lent to a search.
use Rattle.std.specs.Prelude.{ℕ, ◌*◌}
use Rattle.tables.specs.Table.{most_inputs, table_length}

-- a half holds the table of as many inputs as a gate can have
abbrev pub half : ℕ
half = table_length most_inputs

-- a work area has two halves
abbrev pub work_length : ℕ
work_length = 2 * half
