use Rattle.std.proofs.Common.{◌≡◌, ℕ, length, get_or}
use Rattle.times.specs.InputTimes.{zero_time, input_times}
use Rattle.times.specs.Reading.{most_signals}
use Rattle.times.proofs.signals.times_of_inputs.Given as goal

abbrev pub invariant-loop-j : goal.invariant-loop-j
invariant-loop-j l =
    (length l.signals.times ≡ most_signals)
    × ((h : ℕ) → get_or l.signals.times h zero_time ≡ input_times l.late l.j l.said h)
