-- Run a desk of a card at an assignment: one bit.
use Rattle.std.specs.Prelude.{List, [], ◌∷◌, ℕ}
use Rattle.sheets.specs.Edition.{first_edition}
use Rattle.refusals.specs.Lines.{Line, verdict, reply}
use Rattle.refusals.specs.Refusals.{bad_inputs, bad_record, unread_record, bad_assignment}
use Rattle.running.specs.RunSheet.{RunAnswer, run_done, run_not}
use Rattle.cards.specs.Card.{own_bytes, inputs_on, sheet_on}
use Rattle.cards.specs.Refusals.{bad_card, missing_desk, closed_desk, bad_count}

-- of a desk with the bytes o: 19, 18, 1, 9, 10, 15 and 11
abbrev pub desk_lines : List ℕ → ℕ → ℕ → List Line
desk_lines o d x =
    missing_desk d ∷ closed_desk o ∷ bad_inputs (inputs_on o) ∷ bad_count o
    ∷ bad_record first_edition d (inputs_on o) (sheet_on o)
    ∷ unread_record first_edition (inputs_on o) (sheet_on o) ∷ bad_assignment (inputs_on o) x ∷ []

-- what desk d answers from its own bytes: done, the bit that the network of its sheet gives
unfoldable pub desk_outcome : List ℕ → ℕ → ℕ → RunAnswer
desk_outcome o d x = reply (verdict (desk_lines o d x)) (run_done first_edition (inputs_on o) (sheet_on o) x) run_not

-- of a card: 20 and those
abbrev pub run_desk_lines : List ℕ → ℕ → ℕ → List Line
run_desk_lines c d x = bad_card c ∷ desk_lines (own_bytes c d) d x

-- what running a desk is to return, whatever is handed over: 20 first, and then what the desk answers
unfoldable pub run_desk_outcome : List ℕ → ℕ → ℕ → RunAnswer
run_desk_outcome c d x = reply (verdict (bad_card c ∷ [])) (desk_outcome (own_bytes c d) d x) run_not
