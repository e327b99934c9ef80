-- Rebuild a table from a sheet of a told edition, into a lent one.
use Rattle.std.specs.Prelude.{List, ℕ}
use Rattle.sheets.specs.Edition.{edition_of}
use Rattle.sheets.specs.Desk.{desk_of}
use Rattle.refusals.specs.Lines.{Line, verdict, reply}
use Rattle.refusals.specs.Refusals.{told_lines}
use Rattle.rebuilding.specs.RebuildTable.{RebuildOutcome, rebuild_lines, rebuild_done, rebuild_not}

-- 1, 2 of the edition, and rebuild's own in that edition, for the sheet's own desk
abbrev pub rebuild_told_lines : ℕ → ℕ → List ℕ → List ℕ → List Line
rebuild_told_lines w n s table = told_lines w n (rebuild_lines (edition_of w) (desk_of (edition_of w) s) n s table)

-- what it is to return and leave, whatever is handed over
abbrev pub rebuild_told : ℕ → ℕ → List ℕ → List ℕ → RebuildOutcome
rebuild_told w n s table =
    reply (verdict (rebuild_told_lines w n s table)) (rebuild_done (edition_of w) n s) (rebuild_not table)
