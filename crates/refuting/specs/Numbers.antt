-- The numbers of the table of refusals that this room's lines have, by name. The code has them with the others
-- (refusals, src/verdicts.rt).
use Rattle.std.specs.Prelude.{ℕ}

-- how many cells may be too few
abbrev pub of_cells : ℕ
of_cells = 5

-- a certificate's work area that is too short
abbrev pub of_room : ℕ
of_room = 6

-- a certificate that doesn't show it
abbrev pub of_shown : ℕ
of_shown = 22
