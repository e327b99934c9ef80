-- The chain that sets aside the inputs that do not count, before each step and before the final cell.
use Rattle.std.specs.Prelude.{ℕ, zero, suc, List, length}
use Rattle.bits.specs.Numbers.{bit}
use Rattle.tables.specs.Counting.{kept, table_over}
use Rattle.chains.specs.Chain.{pick, Made, stuck, step, inputs}

-- the signals that are kept of those of the table T over the signals l; where none counts that is the first one, for a
-- gate's table signal 0
unfoldable pub kept_signals : List ℕ → ℕ → List ℕ
kept_signals l T = pick (length l) (bit (kept (length l) (bit T))) l

-- the table over those, the others fixed at 0
unfoldable pub kept_table : List ℕ → ℕ → ℕ
kept_table l T = table_over (length l) (bit (kept (length l) (bit T))) (bit T)

-- at most k steps with up to m first cells of size K, the first giving signal i, for the table T over the signals l
unfoldable pub chain_aside : ℕ → ℕ → ℕ → ℕ → List ℕ → ℕ → Made
chain_aside m zero K i l T = stuck
chain_aside m (suc k) K i l T = step m K i (chain_aside m k K) (kept_signals l T) (kept_table l T)

-- the cells of the table T of a gate of n inputs, with up to m first cells at each step
unfoldable pub cells_aside : ℕ → ℕ → ℕ → ℕ → Made
cells_aside m n K T = chain_aside m n K n (inputs n) T

-- its sheet: one first cell at each step
abbrev pub sheet_aside : ℕ → ℕ → ℕ → Made
sheet_aside n K T = cells_aside 1 n K T
