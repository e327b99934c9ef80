-- Rebuild a table from a sheet, into a lent one.
use Rattle.std.specs.Prelude.{List, [], ◌∷◌, ◌++◌, ℕ}
use Rattle.sheets.specs.declared.kinds.Edition.{Edition}
use Rattle.sheets.specs.Desk.{desk_of}
use Rattle.sheets.specs.Sheet.{records, rebuilt}
use Rattle.refusals.specs.Verdicts.{Refusal, Verdict, Fine, Refused}
use Rattle.refusals.specs.Lines.{Line, verdict, reply}
use Rattle.refusals.specs.Refusals.{bad_inputs, bad_table, sheet_lines, unread_record}

-- form: 1, 3, 9 and 10
abbrev pub rebuild_form : Edition → ℕ → ℕ → List ℕ → List ℕ → List Line
rebuild_form e d n s table = bad_inputs n ∷ bad_table n table ∷ sheet_lines e d n s

-- and 15
abbrev pub rebuild_lines : Edition → ℕ → ℕ → List ℕ → List ℕ → List Line
rebuild_lines e d n s table = rebuild_form e d n s table ++ (unread_record e n s ∷ [])

-- the verdict, and the lent table afterwards
pub record RebuildOutcome : Type 0 where
  pub verdict : Verdict
  pub table : List ℕ

-- done: the table written whole, spare bits zero
abbrev pub rebuild_done : Edition → ℕ → List ℕ → RebuildOutcome
rebuild_done e n s = record { verdict = Fine; table = rebuilt e n s (records e s) }

-- refused: the table is as it was lent
abbrev pub rebuild_not : List ℕ → Refusal → RebuildOutcome
rebuild_not table r = record { verdict = Refused r; table = table }

-- what rebuild is to return and leave where the sheet is to be the desk d's, whatever is handed over
unfoldable pub rebuild_outcome : Edition → ℕ → ℕ → List ℕ → List ℕ → RebuildOutcome
rebuild_outcome e d n s table = reply (verdict (rebuild_lines e d n s table)) (rebuild_done e n s) (rebuild_not table)

-- and for the sheet's own desk
abbrev pub rebuild_own : Edition → ℕ → List ℕ → List ℕ → RebuildOutcome
rebuild_own e n s table = rebuild_outcome e (desk_of e s) n s table
