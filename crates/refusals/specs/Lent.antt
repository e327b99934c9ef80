-- Lent bytes afterwards.
use Rattle.std.specs.Prelude.{cond, ◌&&◌, List, ◌++◌, ℕ, leb, length, drop, replicate}
use Rattle.refusals.specs.Verdicts.{Verdict}
use Rattle.refusals.specs.Lines.{number_of}

-- the first bytes of a room replaced, the rest as they were
abbrev pub into : List ℕ → List ℕ → List ℕ
into bytes room = bytes ++ drop (length bytes) room

-- a work area after a verdict: as it was found after 1 to 7, else (0, done, and what the table itself says) zeros
abbrev pub work_after : Verdict → List ℕ → List ℕ
work_after v work = cond (leb 1 (number_of v) && leb (number_of v) 7) work (replicate (length work) 0)
