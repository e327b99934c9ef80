-- `settle_in` meets its contract: a refusal is its lines' verdict, and where these are in order the sheet is good and
-- its times can be found. Assumes nothing.
use mathlib.Core.Path.{◌≡◌, sym, ap, ap₂, ◌∙◌}
use mathlib.Core.List.{List}
use Prim.Native.Nat.{ℕ}
use native.Mathlib.Omega.{arith}
use lib.Ieee.{Float, of_bits}
use Rattle.sheets.specs.declared.kinds.Edition.{Edition}
use Rattle.sheets.specs.Edition.{IsEdition}
use Rattle.sheets.specs.Sheet.{records}
use Rattle.times.specs.declared.input_time.InputTime.{InputTime}
use Rattle.times.specs.InputTimes.{zero_time}
use Rattle.refusals.specs.Verdicts.{Verdict, Fine}
use Rattle.refusals.specs.Lines.{verdict, reply}
use Rattle.refusals.proofs.Lines.{in_order_lem}
use Rattle.settling.specs.Settle.{settle_answer, settle_lines, settle_done, settle_not, settle_outcome}
use Rattle.settling.proofs.Kept.{Leaves, leaves, good_timed}
use Rattle.refusals.proofs.Results.{said_ok, refused_with, replied}
use Rattle.settling.proofs.settle.settle_in.Goals as goal

pub returns-in_err-settle_form : goal.returns-in_err-settle_form
unfolding settle_outcome of_bits
returns-in_err-settle_form c =
    let a = c.args in
    ap settle_answer (refused_with _ _ c.from_residual.ensures.1)
    ∙ replied (settle_lines a.e a.d a.n a.s.now a.delay a.times) _ c.settle_form.ensures _
    (settle_done a.e a.n a.s.now a.delay a.times) settle_not c.in_err-settle_form.was

-- what the lines leave
left : (e : Edition) (d n : ℕ) (s : List ℕ) (delay : Float) (ts : List InputTime) (v : Verdict) → IsEdition e
    → v ≡ verdict (settle_lines e d n s delay ts) → v ≡ Fine → Leaves e d n s delay ts
left e d n s delay ts v ok h q =
    leaves e ok d n s delay ts (in_order_lem (settle_lines e d n s delay ts) (sym h ∙ q))

pub overflow_cast-inputs : goal.overflow_cast-inputs
overflow_cast-inputs c =
    let a = c.args in
    let l = left a.e a.d a.n a.s.now a.delay a.times _ c.requires c.settle_form.ensures (said_ok _ _ c.in_ok-settle_form.was) in
    omega (arith, l.inputs)

pub settle_at-requires : goal.settle_at-requires
settle_at-requires c =
    let a = c.args in
    let l = left a.e a.d a.n a.s.now a.delay a.times _ c.requires c.settle_form.ensures (said_ok _ _ c.in_ok-settle_form.was) in
    (good_timed a.e c.requires a.d a.n a.s.now (records a.e a.s.now) l.inputs l.good, l.inputs)

pub settle_at-requires-2 : goal.settle_at-requires-2
settle_at-requires-2 c =
    let a = c.args in
    let l = left a.e a.d a.n a.s.now a.delay a.times _ c.requires c.settle_form.ensures (said_ok _ _ c.in_ok-settle_form.was) in
    (good_timed a.e c.requires a.d a.n a.s.now (records a.e a.s.now) l.inputs l.good, l.inputs)

pub returns : goal.returns
unfolding settle_outcome
returns c =
    let a = c.args in
    ap₂ (λ (x y : Float). record { verdict = Fine; earliest = x; latest = y }) c.settle_at.ensures
    c.settle_at-2.ensures
    ∙ ap (λ (v : Verdict). reply v (settle_done a.e a.n a.s.now a.delay a.times) settle_not)
    (sym (said_ok _ _ c.in_ok-settle_form.was) ∙ c.settle_form.ensures)
