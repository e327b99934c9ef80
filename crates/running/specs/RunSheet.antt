-- Run a sheet at an assignment: one bit.
use Rattle.std.specs.Prelude.{false, List, [], ◌∷◌, ◌++◌, ℕ, Bool, Result, Ok, Err}
use Rattle.sheets.specs.declared.kinds.Edition.{Edition}
use Rattle.sheets.specs.Desk.{desk_of}
use Rattle.sheets.specs.Sheet.{records, sheet_bit}
use Rattle.refusals.specs.Verdicts.{Refusal, Verdict, Fine, Refused}
use Rattle.refusals.specs.declared.verdicts.Refusal.{Refusal as Why}
use Rattle.refusals.specs.Results.{refusal_of}
use Rattle.refusals.specs.Lines.{Line, verdict, reply}
use Rattle.refusals.specs.Refusals.{bad_inputs, sheet_lines, bad_assignment, unread_record}

-- form: 1, 9, 10 and 11
abbrev pub run_form : Edition → ℕ → ℕ → List ℕ → ℕ → List Line
run_form e d n s x = bad_inputs n ∷ (sheet_lines e d n s ++ (bad_assignment n x ∷ []))

-- and 15
abbrev pub run_lines : Edition → ℕ → ℕ → List ℕ → ℕ → List Line
run_lines e d n s x = run_form e d n s x ++ (unread_record e n s ∷ [])

-- the verdict, and the bit
pub record RunAnswer : Type 0 where
  pub verdict : Verdict
  pub bit : Bool

-- done: the bit that the network of the sheet gives
abbrev pub run_done : Edition → ℕ → List ℕ → ℕ → RunAnswer
run_done e n s x = record { verdict = Fine; bit = sheet_bit e n s (records e s) x }

-- refused: the bit is 0
abbrev pub run_not : Refusal → RunAnswer
run_not r = record { verdict = Refused r; bit = false }

-- what a result says
abbrev pub run_answer : Result Bool Why → RunAnswer
run_answer (Ok bit) = record { verdict = Fine; bit = bit }
run_answer (Err why) = run_not (refusal_of why)

-- what run is to return where the sheet is to be the desk d's, whatever is handed over
unfoldable pub run_outcome : Edition → ℕ → ℕ → List ℕ → ℕ → RunAnswer
run_outcome e d n s x = reply (verdict (run_lines e d n s x)) (run_done e n s x) run_not

-- and for the sheet's own desk
abbrev pub run_own : Edition → ℕ → List ℕ → ℕ → RunAnswer
run_own e n s x = run_outcome e (desk_of e s) n s x
