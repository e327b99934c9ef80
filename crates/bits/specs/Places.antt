-- A place that was looked for below a number, where the definitions give that number if there is none.
use Rattle.std.specs.Prelude.{cond, ℕ, ltb, Option, Some, None}

-- the place i, if it is below m
abbrev pub found_below : ℕ → ℕ → Option ℕ
found_below m i = cond (ltb i m) (Some i) None

-- the place that was found, and m where there is none
abbrev pub place_or : ℕ → Option ℕ → ℕ
place_or m None = m
place_or m (Some i) = i
