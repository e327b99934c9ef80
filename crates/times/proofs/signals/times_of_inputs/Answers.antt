-- `times_of_inputs` meets its contract. The loop's invariant: the inputs passed have their times, and what follows is
-- zero. Assumes nothing.
use Rattle.std.proofs.Common.{◌≡◌, ℕ, length, ap, ◌∙◌, arith, length-set}
use lib.ListN.{length-replicate}
use Rattle.times.specs.InputTimes.{zero_time, input_times}
use Rattle.times.specs.Reading.{most_signals}
use Rattle.times.proofs.Passing.{no_inputs, one_input}
use Rattle.times.proofs.signals.times_of_inputs.Goals as goal

pub loop-j-init : goal.loop-j-init
loop-j-init c =
    let a = c.args in
    let z = c.zeros-signals.ensures in (
      ap length z ∙ length-replicate most_signals zero_time,
      λ h. no_inputs a.late a.said _ most_signals h
          z,
    )

pub loop-j-preserved : goal.loop-j-preserved
loop-j-preserved c =
    let a = c.args in
    let v = c.loop-j.invariant in (
      length-set c.loop-j.signals.times c.loop-j.j c.time_of.result ∙ v.0,
      one_input a.late a.said c.loop-j.signals.times c.loop-j.j c.time_of.result
          (omega (arith, v.0, c.requires)) c.time_of.ensures v.1,
    )

pub returns : goal.returns
returns c =
    let a = c.args in
    let z : c.loop-j.j ≡ a.n = omega arith in
    (c.loop-j.invariant.0, λ h. c.loop-j.invariant.1 h ∙ ap (λ (k : ℕ). input_times a.late k a.said h) z)
