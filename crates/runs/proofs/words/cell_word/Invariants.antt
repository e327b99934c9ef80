use mathlib.Core.Path.{◌≡◌}
use Prim.Native.Nat.{◌-◌, ◌≤◌}
use lib.ListN.{length}
use Rattle.sheets.specs.Record.{byte_at}
use Rattle.runs.proofs.Choosing.{Left}
use Rattle.runs.proofs.words.cell_word.Given as goal

abbrev pub invariant-loop-j : goal.invariant-loop-j
invariant-loop-j l =
    (l.j ≤ byte_at l.b 0 - 1) × (length l.v ≡ length l.initial.v)
    × Left l.e (byte_at l.b) l.words (byte_at l.b 0 - 1) l.v l.j
