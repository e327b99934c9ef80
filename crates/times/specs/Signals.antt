-- When the cells of a network settle. Said of any kind of time: f64, where a sum is rounded, and whole numbers.
use Rattle.std.specs.Prelude.{ℕ, zero, suc, ◌-◌, Bool, true, false, cond, List, [], ◌∷◌, length, ◌==◌, slice_index, Float}
use Rattle.std.specs.Float.Ieee.{add, lt}
use Rattle.std.specs.Float.{binary64}
use Rattle.sheets.specs.declared.kinds.Edition.{Edition}
use Rattle.sheets.specs.Network.{Cell}
use Rattle.sheets.specs.Sheet.{records, sheet_cells}
use Rattle.times.specs.declared.input_time.InputTime.{InputTime}
use Rattle.times.specs.InputTimes.{zero_time, plain_zero, input_times}

-- the one that `pick` keeps of the first k + 1 times
unfoldable pub kept_time : {A : Type 0} → (A → A → A) → (ℕ → A) → ℕ → A
kept_time pick v zero = v 0
kept_time pick v (suc k) = pick (kept_time pick v k) (v (suc k))

-- a cell settles the delay after the time that is kept of those of its inputs, where signal s settles at v s
unfoldable pub cell_time : {A : Type 0} → (A → A → A) → (A → A) → Cell → (ℕ → A) → A
cell_time pick after c v = after (kept_time pick (λ j. v (slice_index c.signals j)) (length c.signals - 1))

-- the cells in turn, the first of them giving signal i; the last cell's time is the output's
unfoldable pub output_time : {A : Type 0} → (A → A → A) → (A → A) → A → ℕ → List Cell → (ℕ → A) → A
output_time pick after o i [] v = o
output_time pick after o i (c ∷ cs) v =
    output_time pick after (cell_time pick after c v) (suc i) cs (λ s. cond (s == i) (cell_time pick after c v) (v s))

-- of two the greater (late), or the lesser
abbrev pub keep_by : {A : Type 0} → (A → A → Bool) → Bool → A → A → A
keep_by less true x y = cond (less x y) y x
keep_by less false x y = cond (less y x) y x

-- the greatest of the latest times (late) is kept, the least of the earliest
unfoldable pub keeping : Bool → Float → Float → Float
keeping = keep_by lt

-- the delay added, rounded once
abbrev pub delayed : Float → Float → Float
delayed delay x = add binary64 x delay

-- the output's latest time (late), or its earliest
unfoldable pub settled : Bool → Edition → ℕ → List ℕ → Float → List InputTime → Float
settled late e n s delay ts =
    output_time (keeping late) (delayed (plain_zero delay)) zero_time n (sheet_cells e s (records e s))
    (input_times late n ts)
