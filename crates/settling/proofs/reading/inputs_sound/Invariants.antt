use mathlib.Core.Path.{◌≡◌}
use mathlib.Core.Bool.{Bool, true, not, ◌&&◌, ◌||◌}
use mathlib.Core.List.{List}
use Prim.Native.Nat.{ℕ}
use Rattle.bits.specs.Numbers.{bit}
use Rattle.bits.specs.Below.{every}
use Rattle.times.specs.declared.input_time.InputTime.{InputTime}
use Rattle.times.specs.InputTimes.{sound_time, given, time_at}
use Rattle.settling.proofs.reading.inputs_sound.Given as goal

-- input j is sound by the mask
abbrev pub by_mask : ℕ → List InputTime → ℕ → Bool
by_mask read ts j = sound_time (time_at ts j) && (given (time_at ts j) || not (bit read j))

abbrev pub invariant-loop-j : goal.invariant-loop-j
invariant-loop-j l = every l.j (by_mask l.read l.times) ≡ true
