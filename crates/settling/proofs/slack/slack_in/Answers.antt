-- `slack_in` meets its contract: a refusal is its lines' verdict, and where these are in order the latest time is a
-- whole number of sixteenths. Assumes nothing.
use Rattle.std.proofs.Common.{Ok, Err}
use mathlib.Core.Path.{◌≡◌, refl, sym, ap, ap₂, subst, ◌∙◌}
use mathlib.Core.Bool.{true, false}
use mathlib.Core.List.{List, [], ◌∷◌}
use Prim.Native.Nat.{ℕ, ◌≤◌}
use native.Mathlib.Omega.{arith}
use lib.IntN.{ℤ, pos, ◌-ℤ◌}
use lib.Ieee.{Float}
use lib.Ieee.Exact.{HasValue}
use mir.Facts.{to_z-of_z, to_z_pos}
use mir.Val.{SFits, to_z, of_z}
use mir.Syntax.{w64}
use Rattle.sheets.specs.declared.kinds.Edition.{Edition}
use Rattle.sheets.specs.Edition.{IsEdition}
use Rattle.sheets.specs.Sheet.{records}
use Rattle.times.specs.declared.input_time.InputTime.{InputTime}
use Rattle.times.specs.Signals.{settled}
use Rattle.times.specs.Sixteenths.{sixteenths_of}
use Rattle.refusals.specs.Verdicts.{Refusal, Verdict, Fine, Refused}
use Rattle.refusals.specs.Lines.{verdict, reply}
use Rattle.refusals.proofs.Lines.{not_fine, in_order_lem, refused_by, left_to}
use Rattle.settling.specs.Refusals.{bad_slack}
use Rattle.settling.specs.Settle.{settle_answer, SettleAnswer, settle_lines, settle_done, settle_not, settle_outcome}
use Rattle.settling.specs.Slack.{slack_answer, slack_done, slack_not, slack_outcome}
use Rattle.settling.proofs.Kept.{Leaves, leaves, all_sound}
use Rattle.settling.proofs.Slacking.{settled_exact, counted, small, InWhole, in_whole}
use Rattle.refusals.proofs.Results.{said_ok, said_err, refused_with}
use Rattle.settling.proofs.slack.slack_in.Goals as goal

-- what the answer of settle says: its verdict is that of the lines, and where it is fine it has the latest time
module _ (e : Edition) (d n : ℕ) (s : List ℕ) (delay : Float) (ts : List InputTime) where
  its_verdict : (settle_outcome e d n s delay ts).verdict ≡ verdict (settle_lines e d n s delay ts)
  unfolding settle_outcome
  its_verdict = go (verdict (settle_lines e d n s delay ts))
    where
      go : (v : Verdict) → (reply v (settle_done e n s delay ts) settle_not).verdict ≡ v
      go Fine = refl
      go (Refused r) = refl

  its_latest : (settle_outcome e d n s delay ts).verdict ≡ Fine → (settle_outcome e d n s delay ts).latest
      ≡ settled true e n s delay ts
  unfolding settle_outcome
  its_latest h = go (verdict (settle_lines e d n s delay ts)) h
    where
      go : (v : Verdict) → (reply v (settle_done e n s delay ts) settle_not).verdict ≡ Fine
          → (reply v (settle_done e n s delay ts) settle_not).latest ≡ settled true e n s delay ts
      go Fine q = refl
      go (Refused r) q = absurd (not_fine r (sym q))

  -- settle's lines are in order
  passed : IsEdition e → (a : SettleAnswer) → a ≡ settle_outcome e d n s delay ts → a.verdict ≡ Fine
      → Leaves e d n s delay ts × (a.latest ≡ settled true e n s delay ts)
  passed ok a p q =
      let v = ap (λ (x : SettleAnswer). x.verdict) (sym p) ∙ q in (
        leaves e ok d n s delay ts (in_order_lem (settle_lines e d n s delay ts) (sym its_verdict ∙ v)),
        ap
            (λ (x : SettleAnswer). x.latest) p ∙ its_latest v,
      )

-- the answer a of settle, and then the look at line 14, of the deadline as the number z, which comes to v
record Asked (e : Edition) (d n : ℕ) (s : List ℕ) (delay : Float) (ts : List InputTime) (deadline : ℤ)
    (a : SettleAnswer) (z : ℤ) (v : Verdict) : Type 0 where
  ok : IsEdition e
  settles : a ≡ settle_outcome e d n s delay ts
  fine : a.verdict ≡ Fine
  due : z ≡ deadline
  looked : v ≡ verdict (bad_slack n delay ts z ∷ [])

-- the outcome, by the verdict of settle's lines and then of line 14
module _ (e : Edition) (d n : ℕ) (s : List ℕ) (delay : Float) (ts : List InputTime) (deadline : ℤ) (a : SettleAnswer)
    (p : a ≡ settle_outcome e d n s delay ts) where
  by_lines : a.verdict ≡ verdict (settle_lines e d n s delay ts)
  by_lines = ap (λ (x : SettleAnswer). x.verdict) p ∙ its_verdict e d n s delay ts

  refused_first : (r : Refusal) → a.verdict ≡ Refused r → slack_not r ≡ slack_outcome e d n s delay ts deadline
  unfolding slack_outcome
  refused_first r q =
      refused_by (settle_lines e d n s delay ts) (bad_slack n delay ts deadline ∷ [])
      (slack_done e n s delay ts deadline) slack_not a.verdict r by_lines q

module _ {e : Edition} {d n : ℕ} {s : List ℕ} {delay : Float} {ts : List InputTime} {deadline : ℤ} {a : SettleAnswer}
    {z : ℤ} {v : Verdict} (k : Asked e d n s delay ts deadline a z v) where
  by_slack : reply v (slack_done e n s delay ts deadline) slack_not ≡ slack_outcome e d n s delay ts deadline
  unfolding slack_outcome
  by_slack =
      ap (λ (u : Verdict). reply u (slack_done e n s delay ts deadline) slack_not)
      (k.looked ∙ ap (λ (x : ℤ). verdict (bad_slack n delay ts x ∷ [])) k.due)
      ∙ left_to (settle_lines e d n s delay ts) (bad_slack n delay ts deadline ∷ []) (slack_done e n s delay ts deadline)
      slack_not a.verdict (by_lines e d n s delay ts deadline a k.settles) k.fine

  refused_then : (r : Refusal) → v ≡ Refused r → slack_not r ≡ slack_outcome e d n s delay ts deadline
  refused_then r h =
      ap (λ (u : Verdict). reply u (slack_done e n s delay ts deadline) slack_not) (sym h) ∙ by_slack

  module _ (h : v ≡ Fine) where
    whole : InWhole n delay ts deadline
    whole = in_whole n delay ts deadline (in_order_lem (bad_slack n delay ts deadline ∷ [])
        (ap (λ (x : ℤ). verdict (bad_slack n delay ts x ∷ [])) (sym k.due) ∙ sym k.looked ∙ h))

    latest : HasValue a.latest false (sixteenths_of a.latest) 16 × (sixteenths_of a.latest ≤ 1048576)
    latest =
        let w = passed e d n s delay ts k.ok a k.settles k.fine in
        let x = settled_exact e d n s delay ts w.0 whole.whole whole.wholes true in
        subst (λ (y : Float). HasValue y false (sixteenths_of y) 16 × (sixteenths_of y ≤ 1048576)) (sym w.1)
        (subst (λ (i : ℕ). HasValue (settled true e n s delay ts) false i 16 × (i ≤ 1048576))
        (sym (counted e d n s delay ts w.0 whole.whole whole.wholes true)) x)

    module _ (i : ℕ) (c : i ≡ sixteenths_of a.latest) where
      few : i ≤ 1048576
      few = omega (arith, c, latest.1)

      less : z -ℤ to_z w64 i ≡ deadline -ℤ pos i
      less = ap₂ (λ (x y : ℤ). x -ℤ y) k.due (to_z_pos w64 {n = i} (omega (arith, few)))

      fits_less : SFits w64 (z -ℤ to_z w64 i)
      fits_less = subst (λ (x : ℤ). SFits w64 x) (sym less) (record { sfits = small deadline i whole.within few })

      done : record { verdict = Fine; slack = to_z w64 (of_z w64 (z -ℤ to_z w64 i)) }
          ≡ slack_outcome e d n s delay ts deadline
      done =
          ap (λ (x : ℤ). record { verdict = Fine; slack = x })
          (to_z-of_z fits_less ∙ less ∙ ap (λ (j : ℕ). deadline -ℤ pos j)
          (c ∙ ap sixteenths_of (passed e d n s delay ts k.ok a k.settles k.fine).1))
          ∙ ap (λ (u : Verdict). reply u (slack_done e n s delay ts deadline) slack_not) (sym h) ∙ by_slack

pub returns-in_err-settled : goal.returns-in_err-settled
returns-in_err-settled c =
    let a = c.args in
    ap slack_answer (refused_with _ _ c.from_residual.ensures.1)
    ∙ refused_first a.e a.d a.n a.s.now a.delay a.times a.deadline (settle_answer (Err c.in_err-settled.field-0.0))
    c.in_err-settled.ensures _ refl

pub overflow_cast-n : goal.overflow_cast-n
overflow_cast-n c =
    let a = c.args in
    let l = (passed a.e a.d a.n a.s.now a.delay a.times c.requires _ c.in_ok-settled.ensures refl).0 in
    omega (arith, l.inputs)

pub slack_form-requires : goal.slack_form-requires
slack_form-requires c =
    let a = c.args in
    let l = (passed a.e a.d a.n a.s.now a.delay a.times c.requires _ c.in_ok-settled.ensures refl).0 in
    (l.inputs, l.within, all_sound a.e a.n a.s.now (records a.e a.s.now) a.times l.times)

-- what is asked where settle's lines are in order
asked : (e : Edition) (d n : ℕ) (s : List ℕ) (delay : Float) (ts : List InputTime) (deadline : ℤ) (a : SettleAnswer)
    (v : Verdict) → IsEdition e → a ≡ settle_outcome e d n s delay ts → a.verdict ≡ Fine
    → to_z w64 (of_z w64 deadline) ≡ deadline
    → v ≡ verdict (bad_slack n delay ts (to_z w64 (of_z w64 deadline)) ∷ [])
    → Asked e d n s delay ts deadline a (to_z w64 (of_z w64 deadline)) v
asked e d n s delay ts deadline a v ok p q z l = record {
  ok = ok;
  settles = p;
  fine = q;
  due = z;
  looked = l;
}

pub returns-in_err-slack_form : goal.returns-in_err-slack_form
returns-in_err-slack_form c =
    let a = c.args in
    let k = asked a.e a.d a.n a.s.now a.delay a.times a.deadline (settle_answer (Ok c.in_ok-settled.settled)) _
    c.requires c.in_ok-settled.ensures refl (to_z-of_z c.ranges.deadline) c.slack_form.ensures in
    ap slack_answer (refused_with _ _ c.from_residual-in_err-slack_form.ensures.1)
    ∙ refused_then k _ (said_err _ _ c.in_err-slack_form.was)

pub count_of-requires : goal.count_of-requires
count_of-requires c =
    let a = c.args in
    let k = asked a.e a.d a.n a.s.now a.delay a.times a.deadline (settle_answer (Ok c.in_ok-settled.settled)) _
    c.requires c.in_ok-settled.ensures refl (to_z-of_z c.ranges.deadline) c.slack_form.ensures in
    latest k (said_ok _ _ c.in_ok-slack_form.was)

pub overflow_cast-result : goal.overflow_cast-result
overflow_cast-result c =
    let a = c.args in
    let k = asked a.e a.d a.n a.s.now a.delay a.times a.deadline (settle_answer (Ok c.in_ok-settled.settled)) _
    c.requires c.in_ok-settled.ensures refl (to_z-of_z c.ranges.deadline) c.slack_form.ensures in
    record { sfits = omega (arith, few k (said_ok _ _ c.in_ok-slack_form.was) c.count_of.result c.count_of.ensures) }

pub overflow_sub-result : goal.overflow_sub-result
overflow_sub-result c =
    let a = c.args in
    let k = asked a.e a.d a.n a.s.now a.delay a.times a.deadline (settle_answer (Ok c.in_ok-settled.settled)) _
    c.requires c.in_ok-settled.ensures refl (to_z-of_z c.ranges.deadline) c.slack_form.ensures in
    fits_less k (said_ok _ _ c.in_ok-slack_form.was) c.count_of.result c.count_of.ensures

pub returns : goal.returns
returns c =
    let a = c.args in
    let k = asked a.e a.d a.n a.s.now a.delay a.times a.deadline (settle_answer (Ok c.in_ok-settled.settled)) _
    c.requires c.in_ok-settled.ensures refl (to_z-of_z c.ranges.deadline) c.slack_form.ensures in
    done k (said_ok _ _ c.in_ok-slack_form.was) c.count_of.result c.count_of.ensures
