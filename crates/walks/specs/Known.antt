-- What the search knows of a table while it walks.
use Rattle.std.specs.Prelude.{ℕ, ◌*◌, ◌^◌, ◌≤◌, List, length}
use Rattle.tables.specs.Table.{most_inputs, table_bit}
use Rattle.best.specs.Walk.{most_first}
use Rattle.known.specs.declared.notes.Notes.{Notes}
use Rattle.known.specs.Notes.{Learned}

-- a table of n inputs, and what was learned of splits with r first cells
pub record Known (n r : ℕ) (t : List ℕ) (notes : Notes) : Type 0 where
  pub most : n ≤ most_inputs
  pub first : r ≤ most_first
  pub long : 2 ^ n ≤ 8 * length t
  pub learned : Learned n (table_bit t) (2 ^ r) notes
