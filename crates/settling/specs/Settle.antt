-- When does the gate settle?
use Rattle.std.specs.Prelude.{true, false, List, [], ◌∷◌, ◌++◌, ℕ, Float, Result, Ok, Err}
use Rattle.sheets.specs.declared.kinds.Edition.{Edition}
use Rattle.sheets.specs.Desk.{desk_of}
use Rattle.times.specs.declared.input_time.InputTime.{InputTime}
use Rattle.times.specs.InputTimes.{zero_time}
use Rattle.times.specs.Signals.{settled}
use Rattle.refusals.specs.Verdicts.{Refusal, Verdict, Fine, Refused}
use Rattle.refusals.specs.declared.verdicts.Refusal.{Refusal as Why}
use Rattle.refusals.specs.Results.{refusal_of}
use Rattle.settling.specs.declared.settle.Settled.{Settled}
use Rattle.refusals.specs.Lines.{Line, verdict, reply}
use Rattle.refusals.specs.Refusals.{bad_inputs, sheet_lines}
use Rattle.settling.specs.Refusals.{bad_times}

-- 1, 9, 10 and 13
abbrev pub settle_lines : Edition → ℕ → ℕ → List ℕ → Float → List InputTime → List Line
settle_lines e d n s delay ts = bad_inputs n ∷ (sheet_lines e d n s ++ (bad_times e n s delay ts ∷ []))

-- the verdict, and the output's earliest and latest time
pub record SettleAnswer : Type 0 where
  pub verdict : Verdict
  pub earliest : Float
  pub latest : Float

-- done: the output's earliest and latest time
abbrev pub settle_done : Edition → ℕ → List ℕ → Float → List InputTime → SettleAnswer
settle_done e n s delay ts = record {
  verdict = Fine;
  earliest = settled false e n s delay ts;
  latest = settled true e n s delay ts;
}

-- refused: both are zero
abbrev pub settle_not : Refusal → SettleAnswer
settle_not r = record { verdict = Refused r; earliest = zero_time; latest = zero_time }

-- what a result says
abbrev pub settle_answer : Result Settled Why → SettleAnswer
settle_answer (Ok s) = record { verdict = Fine; earliest = s.earliest; latest = s.latest }
settle_answer (Err why) = settle_not (refusal_of why)

-- what settle is to return where the sheet is to be the desk d's, whatever is handed over
unfoldable pub settle_outcome : Edition → ℕ → ℕ → List ℕ → Float → List InputTime → SettleAnswer
settle_outcome e d n s delay ts = reply (verdict (settle_lines e d n s delay ts)) (settle_done e n s delay ts) settle_not

-- and for the sheet's own desk
abbrev pub settle_own : Edition → ℕ → List ℕ → Float → List InputTime → SettleAnswer
settle_own e n s delay ts = settle_outcome e (desk_of e s) n s delay ts
