use Rattle.std.proofs.Common.{◌≡◌, ℕ, Bool, true, List}
use Rattle.bits.specs.Below.{every}
use Rattle.times.specs.declared.input_time.InputTime.{InputTime}
use Rattle.times.specs.InputTimes.{time_at}
use Rattle.times.specs.Sixteenths.{time_in_sixteenths}
use Rattle.times.proofs.sixteenths.inputs_in_sixteenths.Given as goal

abbrev pub whole : List InputTime → ℕ → Bool
whole ts j = time_in_sixteenths (time_at ts j)

abbrev pub invariant-loop-j : goal.invariant-loop-j
invariant-loop-j l = every l.j (whole l.times) ≡ true
