-- The sheet of cofactors on its way: the parts of the table at hand, the cells so far, and those that are still to come.
use Rattle.std.specs.Prelude.{◌≡◌, ◌⊎◌, Bool, List, ◌∷◌, ◌++◌, ℕ, ◌+◌, ◌-◌, ◌*◌, ◌^◌, ◌<◌, ◌≤◌, leb, length, get_or}
use Rattle.bits.specs.Numbers.{number}
use Rattle.bits.specs.Lists.{list_of}
use Rattle.tables.specs.Table.{table_bit}
use Rattle.sheets.specs.Edition.{most_records}
use Rattle.sheets.specs.Held.{cells_of}
use Rattle.sheets.specs.Network.{Cell}
use Rattle.chains.specs.Chain.{last_cell}
use Rattle.cofactors.specs.Cofactors.{levels, widths}
use Rattle.making.specs.declared.signals.Signals.{Signals}
use Rattle.making.specs.Stage.{signals_of}
use Rattle.selectors.specs.declared.select.Stand.{Stand}

-- bit y of part v of a table, 2 ^ k bits a part
abbrev pub part_bit : List ℕ → ℕ → ℕ → ℕ → Bool
part_bit t k v y = table_bit t (v * 2 ^ k + y)

-- that part as a cell over the signals l
abbrev pub part_cell : List ℕ → List ℕ → ℕ → ℕ → Cell
part_cell l t k v = last_cell l (number (2 ^ k) (part_bit t k v))

-- a cell with a table of one word
abbrev pub word_cell : ℕ → List ℕ → ℕ → Cell
word_cell k l T = record { signals = list_of k (λ j. get_or l j 0); table = T }

-- signals at equal distances
abbrev pub spaced : ℕ → ℕ → ℕ → ℕ
spaced base step x = base + step * x

-- the signals that stand from a place on
abbrev pub from : List ℕ → ℕ → ℕ → ℕ
from l at t = get_or l (at + t) 0

-- numbers so small that a byte holds every signal
pub record Small (a b c : ℕ) : Type 0 where
  pub base : a ≤ 100
  pub step : b ≤ 3
  pub next : c ≤ 100

-- the cells that are still to come
abbrev pub ahead : ℕ → Signals → Stand → List Cell
ahead k l s =
    levels (leb 3 k) s.next (widths k s.left) (from (signals_of l) s.at) (spaced s.base s.step)

-- a sheet has room for them, and a byte for their signals
pub record InRoom (k : ℕ) (l : Signals) (s : Stand) : Type 0 where
  pub few : s.sheet.count + length (ahead k l s) ≤ most_records
  pub left : s.left ≤ 3
  pub places : s.at + s.left ≤ l.count
  pub base : s.base ≤ s.next
  pub step : s.step ≤ 3
  pub next : s.next + length (ahead k l s) ≤ 100

-- the cells so far and those to come are the same, and fewer signals are left to select
pub record OneLevel (k : ℕ) (l : Signals) (s r : Stand) : Type 0 where
  pub cells : cells_of r.sheet ++ ahead k l r ≡ cells_of s.sheet ++ ahead k l s
  pub room : InRoom k l r
  pub fewer : r.left < s.left

-- w of them select on the next level
pub record NextWidth (k left w : ℕ) : Type 0 where
  pub widths : widths k left ≡ w ∷ widths k (left - w)
  pub fits : (w ≡ 1) ⊎ ((w ≡ 2) × (3 ≤ k))
  pub within : w ≤ left
