-- A sheet for any gate: make's where there is one; else the cells of the chain with up to 3 first cells at each step,
-- if a sheet has room for them.
use Rattle.std.specs.Prelude.{cond, List, ℕ, leb, length}
use Rattle.splits.specs.Columns.{most_first}
use Rattle.sheets.specs.Edition.{most_records}
use Rattle.sheets.specs.Network.{Cell}
use Rattle.chains.specs.Chain.{Made, stuck, made}
use Rattle.chains.specs.Aside.{cells_aside, sheet_aside}

-- the cells of a sheet; or that a table in the chain has no split; or that the cells are too many
pub data Any : Type 0 where
  sheet : List Cell → Any
  unsplit : Any
  overlong : Any

-- what the chain with several first cells says
abbrev pub severally : Made → Any
severally stuck = unsplit
severally (made cs) = cond (leb (length cs) most_records) (sheet cs) overlong

-- make's chain first, and then that one
abbrev pub either : Made → Made → Any
either (made cs) x = sheet cs
either stuck x = severally x

-- the answer for the table T of a gate of n inputs, with what does not count set aside
unfoldable pub any_aside : ℕ → ℕ → ℕ → Any
any_aside n K T = either (sheet_aside n K T) (cells_aside most_first n K T)
