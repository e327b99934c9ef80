-- What the code looks at: a step that is all there, and what steps come to as a verdict.
use Rattle.std.specs.Prelude.{Bool, cond, ◌&&◌, List, ℕ, ◌+◌, ◌≤◌, leb, length}
use Rattle.clauses.specs.Step.{step_length}
use Rattle.refusals.specs.Verdicts.{Verdict, Fine, Refused}
use Rattle.refusals.specs.Lines.{refusal}
use Rattle.refuting.specs.Steps.{Shown, shown, not_shown}

-- there is such a kind, and the step is all there
abbrev pub is_there : List ℕ → ℕ → Bool
is_there c at = leb 1 (step_length c at) && leb (at + step_length c at) (length c)

pub record AllOf (c : List ℕ) (at : ℕ) : Type 0 where
  pub some : 1 ≤ step_length c at
  pub there : at + step_length c at ≤ length c

-- its length, and 0 if it isn't
abbrev pub length_there : List ℕ → ℕ → ℕ
length_there c at = cond (is_there c at) (step_length c at) 0

-- 22, which names the place, where nothing is shown
abbrev pub shown_as : Shown → Verdict
shown_as shown = Fine
shown_as (not_shown p) = Refused (refusal 22 p)
