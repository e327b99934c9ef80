-- The times of a gate's inputs, in nanoseconds.
use Rattle.std.specs.Prelude.{ℕ, zero, suc, Bool, true, false, cond, ◌&&◌, List, pos, nat_lt, slice_index_or, Float}
use Rattle.std.specs.Float.{nan, inf, fin}
use Rattle.std.specs.Float.Ieee.{le}
use Rattle.times.specs.declared.input_time.InputTime.{InputTime}
use Rattle.times.specs.declared.input_time.InputTime.TheVariants.{NotRead, Arrival, Between}

-- zero
abbrev pub zero_time : Float
zero_time = fin false 0 (pos 0)

-- the longest that a time or the delay may be: 4,096
abbrev pub most_time : Float
most_time = fin false 1 (pos 12)

-- in range: a number from 0 to 4,096; a negative zero is one
unfoldable pub in_range : Float → Bool
in_range x = le zero_time x && le x most_time

-- a negative zero is taken as zero
unfoldable pub plain_zero : Float → Float
plain_zero nan = nan
plain_zero (inf s) = inf s
plain_zero (fin s zero e) = zero_time
plain_zero (fin s (suc m) e) = fin s (suc m) e

-- what is said of an input is sound: its times are in range, and not crossed
abbrev pub sound_time : InputTime → Bool
sound_time NotRead = true
sound_time (Arrival t) = in_range t
sound_time (Between a b) = in_range a && (in_range b && le a b)

-- a time is given
abbrev pub given : InputTime → Bool
given NotRead = false
given (Arrival t) = true
given (Between a b) = true

-- an input's latest time (late), or its earliest; zero where it has none
abbrev pub time_of : Bool → InputTime → Float
time_of late NotRead = zero_time
time_of late (Arrival t) = plain_zero t
time_of late (Between a b) = plain_zero (cond late b a)

-- what is said of input j
abbrev pub time_at : List InputTime → ℕ → InputTime
time_at ts j = slice_index_or ts j NotRead

-- the times of n inputs; what is said past them isn't looked at
abbrev pub input_times : Bool → ℕ → List InputTime → ℕ → Float
input_times late n ts j = cond (nat_lt j n) (time_of late (time_at ts j)) zero_time
