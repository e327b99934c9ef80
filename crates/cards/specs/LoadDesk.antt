-- Load a sheet onto a desk of a card.
use Rattle.std.specs.Prelude.{List, ◌∷◌, ℕ}
use Rattle.refusals.specs.Verdicts.{Refusal, Verdict, Fine, Refused}
use Rattle.refusals.specs.Lines.{Line, verdict, reply}
use Rattle.cards.specs.declared.stores.Store.{Store}
use Rattle.cards.specs.Stores.{stored, load_stores}
use Rattle.cards.specs.Refusals.{bad_card, bad_load, filed_lines}

-- 20, 19, 1, 9, 10 and 15
abbrev pub load_lines : List ℕ → ℕ → ℕ → List ℕ → List Line
load_lines c d n s = bad_card c ∷ bad_load d s ∷ filed_lines d n s

-- the verdict, and the card afterwards
pub record LoadOutcome : Type 0 where
  pub verdict : Verdict
  pub card : List ℕ

-- done: the stores are made
abbrev pub load_done : List Store → List ℕ → LoadOutcome
load_done ts c = record { verdict = Fine; card = stored ts c }

-- refused: the card is as it was
abbrev pub load_not : List ℕ → Refusal → LoadOutcome
load_not c r = record { verdict = Refused r; card = c }

-- what a load is to return and leave if of its stores only ts are made
unfoldable pub part_outcome : List Store → List ℕ → ℕ → ℕ → List ℕ → LoadOutcome
part_outcome ts c d n s = reply (verdict (load_lines c d n s)) (load_done ts c) (load_not c)

-- and if all are, whatever is handed over
abbrev pub load_outcome : List ℕ → ℕ → ℕ → List ℕ → LoadOutcome
load_outcome c d n s = part_outcome (load_stores d n s) c d n s
