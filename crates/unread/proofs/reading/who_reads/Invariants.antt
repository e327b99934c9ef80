use mathlib.Core.Path.{◌≡◌}
use Prim.Native.Nat.{ℕ, ◌-◌, ◌<◌}
use Rattle.bits.specs.Places.{found_below}
use Rattle.bits.proofs.Least.{LeastFrom}
use Rattle.sheets.specs.Sheet.{cells_from}
use Rattle.sheets.specs.Reading.{unread}
use Rattle.unread.specs.ReadMasks.{read_mask}
use Rattle.unread.proofs.reading.who_reads.Given as goal

-- what the records from l.i on say: the mask of the signals that they read, and the first unread one of them
abbrev pub invariant-loop-i : goal.invariant-loop-i
invariant-loop-i l =
    (l.i < l.m) × (l.read ≡ read_mask (cells_from l.e l.s l.i (l.m - l.i)))
    × ((f : ℕ) × LeastFrom l.i (l.m - 1) (unread l.e l.n l.s l.m) f × (l.first ≡ found_below (l.m - 1) f))
