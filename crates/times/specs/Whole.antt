-- The output's times over whole numbers of sixteenths, without any rounding.
use Rattle.std.specs.Prelude.{ℕ, ◌+◌, Bool, List, nat_lt, Float}
use Rattle.sheets.specs.declared.kinds.Edition.{Edition}
use Rattle.sheets.specs.Sheet.{records, sheet_cells}
use Rattle.times.specs.declared.input_time.InputTime.{InputTime}
use Rattle.times.specs.InputTimes.{input_times}
use Rattle.times.specs.Signals.{output_time, keep_by}
use Rattle.times.specs.Sixteenths.{sixteenths_of}

-- the greater of two numbers (late), or the lesser
abbrev pub keeping_whole : Bool → ℕ → ℕ → ℕ
keeping_whole = keep_by nat_lt

-- the output's latest time (late), or its earliest
unfoldable pub settled_whole : Bool → Edition → ℕ → List ℕ → Float → List InputTime → ℕ
settled_whole late e n s delay ts =
    output_time (keeping_whole late) (λ i. i + sixteenths_of delay) 0 n (sheet_cells e s (records e s))
    (λ j. sixteenths_of (input_times late n ts j))
