use Rattle.std.proofs.Common.{◌≡◌, ℕ, ◌+◌, ◌-◌, List, get_or}
use lib.Ieee.{Float}
use Rattle.sheets.specs.Record.{byte_at}
use Rattle.times.specs.InputTimes.{zero_time}
use Rattle.times.specs.Signals.{keeping, kept_time}
use Rattle.times.proofs.signals.cell_time.Given as goal

-- the time of the signal that stands at place j of the record
abbrev pub time_here : List Float → List ℕ → ℕ → Float
time_here times b j = get_or times (byte_at b (j + 1)) zero_time

abbrev pub invariant-loop-j : goal.invariant-loop-j
invariant-loop-j l =
    (l.time ≡ kept_time (keeping l.late) (time_here l.signals.times l.b) (l.j - 1))
