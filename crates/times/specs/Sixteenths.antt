-- Times as whole numbers of sixteenths.
use Rattle.std.specs.Prelude.{ℕ, ◌*◌, ◌/◌, ◌%◌, Bool, true, false, ◌&&◌, ℤ, pos, negsuc, ◌==◌, int_le, Float}
use Rattle.std.specs.Float.{nan, inf, fin}
use Rattle.std.specs.Float.Ieee.{up, down}
use Rattle.times.specs.declared.input_time.InputTime.{InputTime}
use Rattle.times.specs.declared.input_time.InputTime.TheVariants.{NotRead, Arrival, Between}

-- how many sixteenths a time has
unfoldable pub sixteenths_of : Float → ℕ
sixteenths_of nan = 0
sixteenths_of (inf s) = 0
sixteenths_of (fin s m e) = m * up e * 16 / down e

-- they are a whole number
unfoldable pub in_sixteenths : Float → Bool
in_sixteenths nan = false
in_sixteenths (inf s) = false
in_sixteenths (fin s m e) = m * up e * 16 % down e == 0

-- those that are said of an input are
abbrev pub time_in_sixteenths : InputTime → Bool
time_in_sixteenths NotRead = true
time_in_sixteenths (Arrival t) = in_sixteenths t
time_in_sixteenths (Between a b) = in_sixteenths a && in_sixteenths b

-- a deadline from -1,048,576 to 1,048,576
abbrev pub deadline_ok : ℤ → Bool
deadline_ok z = int_le (negsuc 1048575) z && int_le z (pos 1048576)
