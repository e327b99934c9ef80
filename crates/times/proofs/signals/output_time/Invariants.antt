use Rattle.std.proofs.Common.{◌≡◌, length, get_or}
use Rattle.sheets.specs.Sheet.{sheet_cells}
use Rattle.times.specs.InputTimes.{zero_time}
use Rattle.times.specs.Reading.{most_signals}
use Rattle.times.specs.Signals.{keeping, delayed, output_time}
use Rattle.times.proofs.Passing.{Passed}
use Rattle.times.proofs.signals.output_time.Given as goal

abbrev pub invariant-loop-i : goal.invariant-loop-i
invariant-loop-i l =
    (length l.signals.times ≡ most_signals)
    × Passed (keeping l.late) (delayed l.delay) l.e l.s l.m
    (output_time (keeping l.late) (delayed l.delay) zero_time l.n (sheet_cells l.e l.s l.m) (λ t. get_or l.initial.signals.times t zero_time))
    l.n l.i l.time (λ t. get_or l.signals.times t zero_time)
