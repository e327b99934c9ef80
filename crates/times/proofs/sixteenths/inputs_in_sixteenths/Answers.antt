-- `inputs_in_sixteenths` meets its contract. The loop's invariant: each input passed is in sixteenths. Assumes nothing.
use Rattle.std.proofs.Common.{◌≡◌, ℕ, sym, ap, ◌∙◌, arith}
use Rattle.bits.specs.Below.{every}
use Rattle.bits.proofs.Below.{every_at, every_more, every_stop}
use Rattle.times.specs.InputTimes.{sound_time, time_at}
use Rattle.times.proofs.sixteenths.inputs_in_sixteenths.Invariants.{whole}
use Rattle.times.proofs.sixteenths.inputs_in_sixteenths.Goals as goal

pub time_in_sixteenths-requires : goal.time_in_sixteenths-requires
time_in_sixteenths-requires c =
    every_at c.args.n (λ j. sound_time (time_at c.args.times j)) c.requires.1 c.loop-j.j (omega arith)

pub returns-then-not-time_in_sixteenths : goal.returns-then-not-time_in_sixteenths
returns-then-not-time_in_sixteenths c =
    let a = c.args in
    sym (every_stop a.n (whole a.times) c.loop-j.j (omega arith)
    (sym c.time_in_sixteenths.ensures ∙ c.if-not-time_in_sixteenths.true))

pub loop-j-preserved : goal.loop-j-preserved
loop-j-preserved c =
    let a = c.args in
    (
    every_more c.loop-j.j (whole a.times) c.loop-j.invariant
    (sym c.time_in_sixteenths.ensures ∙ c.if-not-time_in_sixteenths.false)
    )

pub returns : goal.returns
returns c =
    let a = c.args in
    let z : c.loop-j.j ≡ a.n = omega arith in
    sym c.loop-j.invariant ∙ ap (λ (k : ℕ). every k (whole a.times)) z
