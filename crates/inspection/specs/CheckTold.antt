-- Check a sheet of a told edition against a table.
use Rattle.std.specs.Prelude.{List, ℕ}
use Rattle.sheets.specs.Edition.{edition_of}
use Rattle.sheets.specs.Desk.{desk_of}
use Rattle.refusals.specs.Verdicts.{Verdict}
use Rattle.refusals.specs.Lines.{Line, verdict}
use Rattle.refusals.specs.Refusals.{told_lines}
use Rattle.inspection.specs.CheckSheet.{check_lines}

-- 1, 2 of the edition, and check's own in that edition, for the sheet's own desk
abbrev pub check_told_lines : ℕ → ℕ → List ℕ → List ℕ → List Line
check_told_lines w n t s = told_lines w n (check_lines (edition_of w) (desk_of (edition_of w) s) n t s)

-- what it is to answer, whatever is handed over
abbrev pub check_told : ℕ → ℕ → List ℕ → List ℕ → Verdict
check_told w n t s = verdict (check_told_lines w n t s)
