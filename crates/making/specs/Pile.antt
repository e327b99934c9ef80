-- The cells of a chain as the code holds them: all are counted, and a sheet holds them as long as it has room for them.
use Rattle.std.specs.Prelude.{◌≡◌, List, ◌++◌, ℕ, ◌+◌, ◌*◌, ◌≤◌, length}
use Rattle.tables.specs.Table.{most_inputs}
use Rattle.splits.specs.Columns.{most_first}
use Rattle.sheets.specs.Network.{Cell}
use Rattle.sheets.specs.Edition.{most_records}
use Rattle.sheets.specs.Held.{cells_of}
use Rattle.making.specs.declared.pile.Pile.{Pile}

-- no chain has more cells than that: each step drops a signal
abbrev pub most_piled : ℕ
most_piled = most_inputs * most_first

-- the pile of the cells cs
pub record Piled (p : Pile) (cs : List Cell) : Type 0 where
  pub count : p.count ≡ length cs
  pub held : p.count ≤ most_records → cells_of p.sheet ≡ cs

-- q is the pile p with more cells
pub record Grown (p : Pile) (more : List Cell) (q : Pile) : Type 0 where
  pub count : q.count ≡ p.count + length more
  pub held : (cs : List Cell) → Piled p cs → q.count ≤ most_records → cells_of q.sheet ≡ cs ++ more
