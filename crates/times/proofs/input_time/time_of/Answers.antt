-- `time_of` meets its contract, kind by kind. Assumes nothing.
use Rattle.std.proofs.Common.{sym, ap, ◌∙◌, ap₂}
use lib.Ieee.{of_bits}
use Rattle.times.specs.InputTimes.{plain_zero, time_of}
use Rattle.times.proofs.input_time.time_of.Goals as goal
use Rattle.times.proofs.input_time.time_of.Goals.{then-late, else-late}

pub returns-in-NotRead : goal.returns-in-NotRead
unfolding of_bits
returns-in-NotRead c = sym (ap (time_of c.args.late) c.in-NotRead.is)

pub returns-in-Arrival : goal.returns-in-Arrival
returns-in-Arrival c =
    c.plain_zero.ensures ∙ sym (ap (time_of c.args.late)
    c.in-Arrival.is)

pub returns-after-late : goal.returns-after-late
returns-after-late c =
    c.plain_zero-in-Between.ensures
    ∙ elim c.if-late.branch [
      | then-late w ↦ ap plain_zero w.plain_zero-is ∙ sym (ap₂ time_of w.if-late.true c.in-Between.is)
      | else-late w ↦ ap plain_zero w.plain_zero-is ∙ sym (ap₂ time_of w.if-late.false c.in-Between.is)
    ]
