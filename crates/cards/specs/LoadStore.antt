-- One store of a load.
use Rattle.std.specs.Prelude.{List, ℕ}
use Rattle.cards.specs.Stores.{one_store}
use Rattle.cards.specs.LoadDesk.{LoadOutcome, part_outcome}

-- as a load, of which store i alone is made
abbrev pub store_outcome : ℕ → List ℕ → ℕ → ℕ → List ℕ → LoadOutcome
store_outcome i c d n s = part_outcome (one_store i d n s) c d n s
