-- Find the best split into cells of a told edition: two masks.
use Rattle.std.specs.Prelude.{List, ℕ}
use Rattle.sheets.specs.Edition.{edition_of}
use Rattle.refusals.specs.Lines.{Line, verdict, reply}
use Rattle.refusals.specs.Refusals.{told_lines}
use Rattle.finding.specs.FindBest.{FindOutcome, best_for, find_lines, find_done, find_not}

-- 1, 2 of the edition, and find's own in that edition
abbrev pub find_told_lines : ℕ → ℕ → ℕ → List ℕ → List ℕ → List Line
find_told_lines w n K t work = told_lines w n (find_lines (edition_of w) n K t work)

-- what it is to return and leave, whatever is handed over
abbrev pub find_told : ℕ → ℕ → ℕ → List ℕ → List ℕ → FindOutcome
find_told w n K t work =
    reply (verdict (find_told_lines w n K t work)) (find_done (best_for n K t) work) (find_not work)
