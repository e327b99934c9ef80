-- Words that the claims on times use.
use Rattle.std.specs.Prelude.{◌≡◌, true, false, List, ℕ, ◌+◌, ◌<◌, Float}
use Rattle.sheets.specs.declared.kinds.Edition.{Edition}
use Rattle.sheets.specs.Sheet.{record_at, records}
use Rattle.times.specs.declared.input_time.InputTime.{InputTime}
use Rattle.times.specs.InputTimes.{in_range, sound_time, given, time_at}
use Rattle.times.specs.Sixteenths.{in_sixteenths, time_in_sixteenths}

-- some cell of a sheet reads signal t
pub record Reads (e : Edition) (s : List ℕ) (t : ℕ) : Type 0 where
  pub cell : ℕ
  pub within : cell < records e s
  pub place : ℕ
  pub among : place < record_at e s cell 0
  pub reads : record_at e s cell (place + 1) ≡ t

-- the delay and the times of the n inputs are numbers in range and not crossed, and a time is there for each input that
-- some cell reads
pub record SoundTimes (e : Edition) (n : ℕ) (s : List ℕ) (delay : Float) (ts : List InputTime) : Type 0 where
  pub delayed : in_range delay ≡ true
  pub sound : (j : ℕ) → j < n → sound_time (time_at ts j) ≡ true
  pub there : (j : ℕ) → j < n → given (time_at ts j) ≡ false → Reads e s j → ⊥

-- the delay and the times of the n inputs are whole numbers of sixteenths
pub record WholeTimes (n : ℕ) (delay : Float) (ts : List InputTime) : Type 0 where
  pub delayed : in_sixteenths delay ≡ true
  pub times : (j : ℕ) → j < n → time_in_sixteenths (time_at ts j) ≡ true
