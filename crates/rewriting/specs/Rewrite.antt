-- Write a sheet of the edition e in the edition f.
use Rattle.std.specs.Prelude.{◌≡◌, List, [], ◌∷◌, ◌++◌, ℕ, ◌*◌, take, Result, Ok, Err}
use Rattle.sheets.specs.declared.kinds.Edition.{Edition}
use Rattle.sheets.specs.Desk.{desk_of}
use Rattle.sheets.specs.Sheet.{sheet_cells, records, rebuilt, Good}
use Rattle.sheets.specs.Reading.{EachRead}
use Rattle.sheets.specs.Writing.{sheet_bytes}
use Rattle.refusals.specs.Verdicts.{Refusal, Verdict, Fine, Refused}
use Rattle.refusals.specs.declared.verdicts.Refusal.{Refusal as Why}
use Rattle.refusals.specs.Results.{refusal_of}
use Rattle.refusals.specs.Lines.{Line, verdict, reply}
use Rattle.refusals.specs.Refusals.{bad_inputs, short_records, sheet_lines, unread_record}
use Rattle.refusals.specs.Lent.{into}

-- ---- meaning

-- the sheet r of the edition f says what the sheet s of the edition e says: as many good records, each but the last
-- read if it was, for the same desk, and the same table rebuilt
pub record SaysTheSame (e f : Edition) (n : ℕ) (s r : List ℕ) (m : ℕ) : Type 0 where
  pub rules : Good f (desk_of e s) n r m
  pub read : EachRead e n s m → EachRead f n r m
  pub desk : desk_of f r ≡ desk_of e s
  pub table : rebuilt f n r m ≡ rebuilt e n s m

-- ---- answer

-- the bytes: the same cells, for the desk d
abbrev pub rewritten : Edition → Edition → ℕ → List ℕ → ℕ → List ℕ
rewritten e f d s m = sheet_bytes f d (sheet_cells e s m)

-- form and room: 1, 6, 9 and 10
abbrev pub rewrite_form : Edition → Edition → ℕ → ℕ → List ℕ → List ℕ → List Line
rewrite_form e f d n s room = bad_inputs n ∷ short_records f room ∷ sheet_lines e d n s

-- and 15
abbrev pub rewrite_lines : Edition → Edition → ℕ → ℕ → List ℕ → List ℕ → List Line
rewrite_lines e f d n s room = rewrite_form e f d n s room ++ (unread_record e n s ∷ [])

-- the verdict, and how many records
pub record RewriteAnswer : Type 0 where
  pub verdict : Verdict
  pub count : ℕ

-- the answer, and the lent room afterwards
pub record RewriteOutcome : Type 0 where
  pub answer : RewriteAnswer
  pub room : List ℕ

-- the records that were written: so many of the room's first bytes, as they are afterwards
abbrev pub new_records : Edition → RewriteOutcome → List ℕ
new_records f o = take (f.size * o.answer.count) o.room

-- done: how many records; the bytes after the last stay
abbrev pub rewrite_done : Edition → Edition → ℕ → List ℕ → List ℕ → RewriteOutcome
rewrite_done e f d s room = record {
  answer = record { verdict = Fine; count = records e s };
  room = into (rewritten e f d s (records e s)) room;
}

-- refused: the count is 0, and the room is as it was lent
abbrev pub rewrite_not : List ℕ → Refusal → RewriteOutcome
rewrite_not room r = record { answer = record { verdict = Refused r; count = 0 }; room = room }

-- what a result says
abbrev pub rewrite_answer : Result ℕ Why → RewriteAnswer
rewrite_answer (Ok count) = record { verdict = Fine; count = count }
rewrite_answer (Err why) = record { verdict = Refused (refusal_of why); count = 0 }

-- what rewrite is to return and leave where the sheet is to be the desk d's, whatever is handed over
unfoldable pub rewrite_outcome : Edition → Edition → ℕ → ℕ → List ℕ → List ℕ → RewriteOutcome
rewrite_outcome e f d n s room =
    reply (verdict (rewrite_lines e f d n s room)) (rewrite_done e f d s room) (rewrite_not room)

-- and for the sheet's own desk
abbrev pub rewrite_own : Edition → Edition → ℕ → List ℕ → List ℕ → RewriteOutcome
rewrite_own e f n s room = rewrite_outcome e f (desk_of e s) n s room
