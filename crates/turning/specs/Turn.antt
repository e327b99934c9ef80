-- Turning one three-input table into another. Line 21 of the table of refusals stands here.
use Rattle.std.specs.Prelude.{false, not, List, [], ◌∷◌, ℕ, Result, Ok, Err}
use Rattle.refusals.specs.Verdicts.{Refusal, Verdict, Fine, Refused}
use Rattle.refusals.specs.declared.verdicts.Refusal.{Refusal as Why}
use Rattle.refusals.specs.Results.{refusal_of}
use Rattle.refusals.specs.Lines.{Line, line, verdict, reply}
use Rattle.turning.specs.declared.ways.Way.{Way}
use Rattle.turning.specs.Listing.{way_at, first_way}
use Rattle.turning.specs.Reach.{reaches}

-- 21: no swap and flips turn the first table into the second
abbrev pub no_way : ℕ → ℕ → Line
no_way f g = line 21 (not (reaches f g))

-- the call's one line
abbrev pub turn_lines : ℕ → ℕ → List Line
turn_lines f g = no_way f g ∷ []

-- the verdict, and the way
pub record TurnAnswer : Type 0 where
  pub verdict : Verdict
  pub way : Way

-- done: the first way
abbrev pub turn_done : ℕ → ℕ → TurnAnswer
turn_done f g = record { verdict = Fine; way = way_at (first_way f g) }

-- refused: zeros
abbrev pub turn_not : Refusal → TurnAnswer
turn_not r = record { verdict = Refused r; way = record { flip = false; mask = 0; p0 = 0; p1 = 0; p2 = 0 } }

-- what a result says
abbrev pub turn_answer : Result Way Why → TurnAnswer
turn_answer (Ok way) = record { verdict = Fine; way = way }
turn_answer (Err why) = turn_not (refusal_of why)

-- what turn is to return, whatever is handed over
unfoldable pub turn_outcome : ℕ → ℕ → TurnAnswer
turn_outcome f g = reply (verdict (turn_lines f g)) (turn_done f g) turn_not
