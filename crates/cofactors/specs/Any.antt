-- A sheet for any gate: make's where there is one; else the cells of the chain with up to 3 first cells at each step or
-- the sheet of cofactors, whichever has fewer cells, if a sheet has room for them.
use Rattle.std.specs.Prelude.{cond, List, ℕ, leb, length}
use Rattle.splits.specs.Columns.{most_first}
use Rattle.sheets.specs.Edition.{most_records}
use Rattle.sheets.specs.Network.{Cell}
use Rattle.chains.specs.Chain.{Made, stuck, made}
use Rattle.chains.specs.Aside.{cells_aside, sheet_aside}
use Rattle.cofactors.specs.Cofactors.{cofactors_aside}

-- the cells of a sheet; or that there is none; or that the cells are too many
pub data Any : Type 0 where
  sheet : List Cell → Any
  unsplit : Any
  overlong : Any

-- the one with fewer cells, the first where they have equally many
abbrev pub shorter : Made → Made → Made
shorter stuck y = y
shorter (made cs) stuck = made cs
shorter (made cs) (made ds) = made (cond (leb (length cs) (length ds)) cs ds)

-- what is written of it
abbrev pub severally : Made → Any
severally stuck = unsplit
severally (made cs) = cond (leb (length cs) most_records) (sheet cs) overlong

-- make's chain first, and then that
abbrev pub either : Made → Made → Any
either (made cs) x = sheet cs
either stuck x = severally x

-- where make has none: the chain with several first cells or the sheet of cofactors
unfoldable pub otherwise : ℕ → ℕ → ℕ → Made
otherwise n K T = shorter (cells_aside most_first n K T) (cofactors_aside n K T)

-- the answer for the table T of a gate of n inputs, with what does not count set aside
unfoldable pub any_aside : ℕ → ℕ → ℕ → Any
any_aside n K T = either (sheet_aside n K T) (otherwise n K T)
