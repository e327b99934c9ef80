-- What the code that makes a sheet holds and promises.
use Rattle.std.specs.Prelude.{◌≡◌, Bool, List, ◌++◌, ℕ, ◌+◌, ◌^◌, ◌≤◌, length, replicate, Option, Some, None}
use Rattle.bits.specs.Numbers.{bit, number}
use Rattle.bits.specs.Lists.{list_of}
use Rattle.tables.specs.Table.{table_bit}
use Rattle.columns.specs.declared.split.Split.{Split}
use Rattle.splits.specs.Split.{reads_d, reads_h}
use Rattle.splits.specs.Pair.{table_d}
use Rattle.sheets.specs.Network.{Cell}
use Rattle.sheets.specs.Edition.{most_records}
use Rattle.sheets.specs.Held.{cells_of}
use Rattle.chains.specs.Chain.{pick, Made, stuck, made}
use Rattle.chains.specs.Aside.{cells_aside}
use Rattle.making.specs.declared.chaining.Stage.{Stage}
use Rattle.making.specs.declared.chaining.ChainEnd.{ChainEnd}
use Rattle.making.specs.Stage.{signals_of}
use Rattle.making.specs.Area.{at_hand, NextTable}
use Rattle.making.specs.Pile.{Grown}

-- first cell t: the signals of A and B, and its table, where s splits the table F over the signals l
abbrev pub d_cell : Split → (ℕ → Bool) → List ℕ → ℕ → Cell
d_cell s F l t = record {
  signals = pick s.n (reads_d (bit s.own) (bit s.shared)) l;
  table = table_d s.n F (bit s.own) (bit s.shared) t;
}

-- one step: the r first cells are on the pile, the signals are those of B and C and then the cells' own, and H is the
-- table at hand
pub record Stepped (g : Stage) (next r : ℕ) (s : Split) (before : List ℕ) (q : Stage) (after : List ℕ) : Type 0 where
  pub cells : Grown g.pile (list_of r (d_cell s (at_hand before) (signals_of g.signals))) q.pile
  pub signals : signals_of q.signals ≡ pick s.n (reads_h (bit s.own) (bit s.shared))
      (signals_of g.signals) ++ list_of r (λ t. next + t)
  pub table : NextTable s r before after

-- what is told of a chain: nothing where it is stuck; or how many cells it has, and these where a sheet has room for
-- them
abbrev pub Tells : Option ChainEnd → Made → Type 0
Tells None stuck = Unit {0}
Tells None (made cs) = ⊥
Tells (Some e) stuck = ⊥
Tells (Some e) (made cs) = (e.count ≡ length cs) × (length cs ≤ most_records → cells_of e.sheet ≡ cs)

-- the cells of a gate's table, with up to m first cells at each step; the work area is zeros
pub record ChainedUpTo (m n K : ℕ) (t work : List ℕ) (r : Option ChainEnd) (work' : List ℕ) : Type 0 where
  pub told : Tells r (cells_aside m n K (number (2 ^ n) (table_bit t)))
  pub cleared : work' ≡ replicate (length work) 0
