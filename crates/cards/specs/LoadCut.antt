-- A load that is cut after some of its stores.
use Rattle.std.specs.Prelude.{List, ℕ}
use Rattle.cards.specs.Stores.{cut_load}
use Rattle.cards.specs.LoadDesk.{LoadOutcome, part_outcome}

-- as a load, after at most k stores
abbrev pub cut_outcome : ℕ → List ℕ → ℕ → ℕ → List ℕ → LoadOutcome
cut_outcome k c d n s = part_outcome (cut_load k d n s) c d n s
