use mathlib.Core.Path.{◌≡◌}
use Prim.Native.Nat.{◌-◌, ◌≤◌}
use Rattle.sheets.specs.Record.{byte_at}
use Rattle.unread.proofs.ReadMasks.{Named}
use Rattle.unread.proofs.reading.also_read.Given as goal

abbrev pub invariant-loop-j : goal.invariant-loop-j
invariant-loop-j l = l.read ≡ Named (byte_at l.b) l.w l.j
