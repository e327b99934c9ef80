-- All ways in their order, and the first that turns one table into another.
use Rattle.std.specs.Prelude.{Bool, List, [], ◌∷◌, ℕ, ◌/◌, ◌%◌, eqb, get_or}
use Rattle.std.specs.Bool.{beq}
use Rattle.bits.specs.Numbers.{bit}
use Rattle.bits.specs.Below.{every, least}
use Rattle.turning.specs.declared.ways.Way.{Way}
use Rattle.turning.specs.Ways.{flipped, moved, way_count}

-- the orders of the inputs as numbers p0 p1 p2, from the least on
abbrev pub orders : List ℕ
orders = 12 ∷ 21 ∷ 102 ∷ 120 ∷ 201 ∷ 210 ∷ []

-- the way whose inputs are in the order o
abbrev pub ordered : Bool → ℕ → ℕ → Way
ordered flip mask o = record { flip = flip; mask = mask; p0 = o / 100; p1 = o / 10 % 10; p2 = o % 10 }

-- way i
unfoldable pub way_at : ℕ → Way
way_at i = ordered (eqb (i / 48) 1) (i / 6 % 8) (get_or orders (i % 6) 0)

-- whether g at x is f at y, flipped if so said
abbrev pub agrees : Way → ℕ → ℕ → ℕ → Bool
agrees w f g x = beq (bit g x) (flipped w.flip (bit f (moved w x)))

-- whether the way turns f into g
unfoldable pub turns : Way → ℕ → ℕ → Bool
turns w f g = every 8 (agrees w f g)

-- the least i whose way does, and how many ways there are if none does
unfoldable pub first_way : ℕ → ℕ → ℕ
first_way f g = least way_count (λ i. turns (way_at i) f g)
