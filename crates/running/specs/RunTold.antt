-- Run a sheet of a told edition at an assignment.
use Rattle.std.specs.Prelude.{List, ℕ}
use Rattle.sheets.specs.Edition.{edition_of}
use Rattle.sheets.specs.Desk.{desk_of}
use Rattle.refusals.specs.Lines.{Line, verdict, reply}
use Rattle.refusals.specs.Refusals.{told_lines}
use Rattle.running.specs.RunSheet.{RunAnswer, run_lines, run_done, run_not}

-- 1, 2 of the edition, and run's own in that edition, for the sheet's own desk
abbrev pub run_told_lines : ℕ → ℕ → List ℕ → ℕ → List Line
run_told_lines w n s x = told_lines w n (run_lines (edition_of w) (desk_of (edition_of w) s) n s x)

-- what it is to return, whatever is handed over
abbrev pub run_told : ℕ → ℕ → List ℕ → ℕ → RunAnswer
run_told w n s x = reply (verdict (run_told_lines w n s x)) (run_done (edition_of w) n s x) run_not
