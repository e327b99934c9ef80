-- Write a sheet as a formula into a lent room.
use Rattle.std.specs.Prelude.{List, [], ◌∷◌, ◌++◌, ℕ, ltb, length, Result, Ok, Err}
use Rattle.sheets.specs.declared.kinds.Edition.{Edition}
use Rattle.sheets.specs.Desk.{desk_of}
use Rattle.refusals.specs.Verdicts.{Refusal, Verdict, Fine, Refused}
use Rattle.refusals.specs.declared.verdicts.Refusal.{Refusal as Why}
use Rattle.refusals.specs.Results.{refusal_of}
use Rattle.refusals.specs.Lines.{Line, line, verdict, reply}
use Rattle.refusals.specs.Refusals.{bad_inputs, sheet_lines}
use Rattle.refusals.specs.Lent.{into}
use Rattle.formulas.specs.Text.{most_text}
use Rattle.printing.specs.Print.{sheet_text}
use Rattle.printing.specs.Printable.{not_printed}

-- 6: room for the text under 1,024 bytes
abbrev pub short_text : List ℕ → Line
short_text room = line 6 (ltb (length room) most_text)

-- form and room: 1, 6, 9 and 10
abbrev pub write_form : Edition → ℕ → ℕ → List ℕ → List ℕ → List Line
write_form e d n s room = bad_inputs n ∷ short_text room ∷ sheet_lines e d n s

-- and 16
abbrev pub write_lines : Edition → ℕ → ℕ → List ℕ → List ℕ → List Line
write_lines e d n s room = write_form e d n s room ++ (not_printed e n s ∷ [])

-- the verdict, and the text's length
pub record WriteAnswer : Type 0 where
  pub verdict : Verdict
  pub length : ℕ

-- the answer, and the room afterwards
pub record WriteOutcome : Type 0 where
  pub answer : WriteAnswer
  pub room : List ℕ

-- done: the text's length, and the text in the room, whose bytes past it stay
abbrev pub write_done : Edition → ℕ → List ℕ → List ℕ → WriteOutcome
write_done e n s room = record {
  answer = record { verdict = Fine; length = length (sheet_text e n s) };
  room = into (sheet_text e n s) room;
}

-- refused: the length is 0, and the room is as it was lent
abbrev pub write_not : List ℕ → Refusal → WriteOutcome
write_not room r = record { answer = record { verdict = Refused r; length = 0 }; room = room }

-- what a result says
abbrev pub write_answer : Result ℕ Why → WriteAnswer
write_answer (Ok length) = record { verdict = Fine; length = length }
write_answer (Err why) = record { verdict = Refused (refusal_of why); length = 0 }

-- what the writer is to return and leave where the sheet is to be the desk d's, whatever is handed over
unfoldable pub write_outcome : Edition → ℕ → ℕ → List ℕ → List ℕ → WriteOutcome
write_outcome e d n s room = reply (verdict (write_lines e d n s room)) (write_done e n s room) (write_not room)

-- and for the sheet's own desk
abbrev pub write_own : Edition → ℕ → List ℕ → List ℕ → WriteOutcome
write_own e n s room = write_outcome e (desk_of e s) n s room
