-- Whether one table can be turned into another.
use Rattle.std.specs.Prelude.{Bool, ℕ, ltb}
use Rattle.turning.specs.Ways.{way_count}
use Rattle.turning.specs.Listing.{first_way}

-- whether some way turns f into g
abbrev pub reaches : ℕ → ℕ → Bool
reaches f g = ltb (first_way f g) way_count
