-- The slack: how much earlier than a deadline, in sixteenths, the output settles.
use Rattle.std.specs.Prelude.{true, List, [], ◌∷◌, ◌++◌, ℕ, ℤ, pos, ◌-ℤ◌, Float, Result, Ok, Err}
use Rattle.sheets.specs.declared.kinds.Edition.{Edition}
use Rattle.sheets.specs.Desk.{desk_of}
use Rattle.times.specs.declared.input_time.InputTime.{InputTime}
use Rattle.times.specs.Signals.{settled}
use Rattle.times.specs.Sixteenths.{sixteenths_of}
use Rattle.refusals.specs.Verdicts.{Refusal, Verdict, Fine, Refused}
use Rattle.refusals.specs.declared.verdicts.Refusal.{Refusal as Why}
use Rattle.refusals.specs.Results.{refusal_of}
use Rattle.refusals.specs.Lines.{Line, verdict, reply}
use Rattle.settling.specs.Refusals.{bad_slack}
use Rattle.settling.specs.Settle.{settle_lines}

-- 1, 9, 10, 13 and 14
abbrev pub slack_lines : Edition → ℕ → ℕ → List ℕ → Float → List InputTime → ℤ → List Line
slack_lines e d n s delay ts deadline = settle_lines e d n s delay ts ++ (bad_slack n delay ts deadline ∷ [])

-- the verdict, and the slack in sixteenths
pub record SlackAnswer : Type 0 where
  pub verdict : Verdict
  pub slack : ℤ

-- done: the deadline less the output's latest time; below zero is an answer
abbrev pub slack_done : Edition → ℕ → List ℕ → Float → List InputTime → ℤ → SlackAnswer
slack_done e n s delay ts deadline = record {
  verdict = Fine;
  slack = deadline -ℤ pos (sixteenths_of (settled true e n s delay ts));
}

-- refused: the slack is 0
abbrev pub slack_not : Refusal → SlackAnswer
slack_not r = record { verdict = Refused r; slack = pos 0 }

-- what a result says
abbrev pub slack_answer : Result ℤ Why → SlackAnswer
slack_answer (Ok slack) = record { verdict = Fine; slack = slack }
slack_answer (Err why) = slack_not (refusal_of why)

-- what slack is to return where the sheet is to be the desk d's, whatever is handed over
unfoldable pub slack_outcome : Edition → ℕ → ℕ → List ℕ → Float → List InputTime → ℤ → SlackAnswer
slack_outcome e d n s delay ts deadline =
    reply (verdict (slack_lines e d n s delay ts deadline)) (slack_done e n s delay ts deadline) slack_not

-- and for the sheet's own desk
abbrev pub slack_own : Edition → ℕ → List ℕ → Float → List InputTime → ℤ → SlackAnswer
slack_own e n s delay ts deadline = slack_outcome e (desk_of e s) n s delay ts deadline
