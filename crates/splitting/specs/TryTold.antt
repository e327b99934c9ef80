-- Try a named split into cells of a told edition: D in the words of a cell's table, H into a lent room.
use Rattle.std.specs.Prelude.{List, ℕ}
use Rattle.sheets.specs.Edition.{edition_of}
use Rattle.refusals.specs.Lines.{Line, verdict, reply}
use Rattle.refusals.specs.Refusals.{told_lines}
use Rattle.splitting.specs.TrySplit.{TryOutcome, try_lines, try_done, try_not}

-- 1, 2 of the edition, and try's own in that edition, with one first cell
abbrev pub try_told_lines : ℕ → ℕ → ℕ → ℕ → ℕ → List ℕ → List ℕ → List Line
try_told_lines w n K A B t room = told_lines w n (try_lines (edition_of w) n K 1 A B t room)

-- what it is to return and leave, whatever is handed over
abbrev pub try_told : ℕ → ℕ → ℕ → ℕ → ℕ → List ℕ → List ℕ → TryOutcome
try_told w n K A B t room =
    reply (verdict (try_told_lines w n K A B t room)) (try_done n 1 A B t room) (try_not n A B t room)
