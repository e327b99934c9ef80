-- `slack_form` meets its contract: line 14, test by test. Assumes nothing.
use mathlib.Core.Path.{◌≡◌, refl, sym, ap, ◌∙◌}
use mathlib.Core.Bool.{Bool, cond, not, ◌&&◌}
use mathlib.Core.List.{List, [], ◌∷◌}
use Prim.Native.Nat.{ℕ}
use lib.IntN.{ℤ}
use lib.Ieee.{Float}
use mir.Facts.{to_z-of_z}
use Rattle.bits.specs.Below.{every}
use Rattle.times.specs.declared.input_time.InputTime.{InputTime}
use Rattle.times.specs.InputTimes.{time_at}
use Rattle.times.specs.Sixteenths.{in_sixteenths, time_in_sixteenths, deadline_ok}
use Rattle.refusals.specs.Verdicts.{Verdict, Fine, Refused}
use Rattle.refusals.specs.Lines.{refusal, verdict}
use Rattle.settling.specs.Refusals.{bad_slack}
use Rattle.settling.proofs.slack.slack_form.Goals as goal

-- 14 unless all three tests hold
given : Bool → Verdict
given t = cond (not t) (Refused (refusal 14 0)) Fine

module _ (n : ℕ) (delay : Float) (ts : List InputTime) (deadline : ℤ) where
  by : (p q r : Bool) → in_sixteenths delay ≡ p → every n (λ j. time_in_sixteenths (time_at ts j)) ≡ q → deadline_ok deadline
      ≡ r
      → given (p && (q && r)) ≡ verdict (bad_slack n delay ts deadline ∷ [])
  unfolding given
  by p q r h k l =
      sym (ap (λ (t : Bool). given (t && (every n (λ j. time_in_sixteenths (time_at ts j)) && deadline_ok deadline))) h
      ∙ ap (λ (t : Bool). given (p && (t && deadline_ok deadline))) k ∙ ap (λ (t : Bool). given (p && (q && t))) l)

pub returns-then-deadline_ok : goal.returns-then-deadline_ok
unfolding given
returns-then-deadline_ok c =
    let a = c.args in
    by a.n a.delay a.times a.deadline _ _ _
    (sym c.in_sixteenths.ensures ∙ c.if-in_sixteenths.true)
    (sym c.inputs_in_sixteenths.ensures ∙ c.if-inputs_in_sixteenths.true)
    (ap deadline_ok (sym (to_z-of_z c.ranges.deadline)) ∙ sym c.deadline_ok.ensures
    ∙ c.if-deadline_ok.true)

pub returns-else-in_sixteenths : goal.returns-else-in_sixteenths
unfolding given
returns-else-in_sixteenths c =
    let a = c.args in
    elim c.else-in_sixteenths.branch [
      | goal.else-in_sixteenths-via-then-in_sixteenths+then-inputs_in_sixteenths+else-deadline_ok w ↦
          by a.n a.delay a.times a.deadline _ _ _
          (sym c.in_sixteenths.ensures ∙ w.if-in_sixteenths.true)
          (sym w.inputs_in_sixteenths.ensures ∙ w.if-inputs_in_sixteenths.true)
          (ap deadline_ok (sym (to_z-of_z c.ranges.deadline)) ∙ sym w.deadline_ok.ensures ∙ w.if-deadline_ok.false)
      | goal.else-in_sixteenths-via-then-in_sixteenths+else-inputs_in_sixteenths w ↦
          by a.n a.delay a.times a.deadline _ _ _
          (sym c.in_sixteenths.ensures ∙ w.if-in_sixteenths.true)
          (sym w.inputs_in_sixteenths.ensures ∙ w.if-inputs_in_sixteenths.false) refl
      | goal.else-in_sixteenths-via-else-in_sixteenths w ↦
          by a.n a.delay a.times a.deadline _ _ _
          (sym c.in_sixteenths.ensures ∙ w.if-in_sixteenths.false) refl refl
    ]

pub in_sixteenths-requires : goal.in_sixteenths-requires
in_sixteenths-requires c = c.requires.1

pub inputs_in_sixteenths-requires : goal.inputs_in_sixteenths-requires
inputs_in_sixteenths-requires c = (c.requires.0, c.requires.2)
