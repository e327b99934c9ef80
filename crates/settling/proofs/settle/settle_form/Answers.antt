-- `settle_form` meets its contract: what lines 1, 9 and 10 refuse, else line 13. Assumes nothing.
use mathlib.Core.Path.{◌≡◌, sym, ap, ap₂, ◌∙◌}
use mathlib.Core.Bool.{Bool, true, false, not, ◌&&◌}
use mathlib.Core.List.{List, [], ◌∷◌}
use Prim.Native.Nat.{ℕ}
use native.Mathlib.Omega.{arith}
use lib.Ieee.{Float}
use Rattle.sheets.specs.declared.kinds.Edition.{Edition}
use Rattle.sheets.specs.Sheet.{records}
use Rattle.times.specs.declared.input_time.InputTime.{InputTime}
use Rattle.refusals.specs.Lines.{Line}
use Rattle.refusals.specs.Refusals.{bad_inputs, sheet_lines}
use Rattle.refusals.proofs.Lines.{fine, here, later, stopped, decided}
use Rattle.refusals.proofs.Sheets.{good_sheet, runnable}
use Rattle.refusals.proofs.Tests.{sheet_through}
use Rattle.settling.specs.Refusals.{bad_times}
use Rattle.refusals.proofs.Results.{said_ok, handed_on, stopped_by}
use Rattle.settling.proofs.settle.settle_form.Goals as goal

-- the lines before the times, and line 13
abbrev ls : Edition → ℕ → ℕ → List ℕ → List Line
ls e d n s = bad_inputs n ∷ sheet_lines e d n s

abbrev ms : Edition → ℕ → List ℕ → Float → List InputTime → List Line
ms e n s delay ts = bad_times e n s delay ts ∷ []

-- line 13, test by test
unsound : {p : Bool} (q : Bool) → p ≡ false → not (p && q) ≡ true
unsound q h = ap (λ (t : Bool). not (t && q)) h

both : {p q r : Bool} → p ≡ true → q ≡ r → not (p && q) ≡ not r
both h k = ap₂ (λ (t u : Bool). not (t && u)) h k

pub returns-in_err-sheet_for : goal.returns-in_err-sheet_for
returns-in_err-sheet_for c =
    let a = c.args in
    handed_on _ _ c.from_residual.ensures.1
    ∙ stopped_by (ls a.e a.d a.n a.s.now) (ms a.e a.n a.s.now a.delay a.times) _ c.sheet_for.ensures _ c.in_err-sheet_for.was

pub returns-then-not-in_range : goal.returns-then-not-in_range
returns-then-not-in_range c =
    let a = c.args in
    decided (ls a.e a.d a.n a.s.now) (ms a.e a.n a.s.now a.delay a.times) _ c.sheet_for.ensures (said_ok _ _ c.in_ok-sheet_for.was)
    (here (unsound _ (sym c.in_range.ensures ∙ c.if-not-in_range.true)))

pub nonzero_div-m : goal.nonzero_div-m
nonzero_div-m c = let p = c.requires in omega (arith, p.ends, p.order)

pub inputs_sound-requires : goal.inputs_sound-requires
inputs_sound-requires c =
    let a = c.args in
    let w = sheet_through a.e a.d a.n a.s.now _ c.sheet_for.ensures
    (said_ok _ _ c.in_ok-sheet_for.was) in
    let g = good_sheet a.e a.d a.n a.s.now c.requires w.1 in
    record { edition = runnable a.e a.d a.n a.s.now c.requires (records a.e a.s.now) w.0 g; le_m = g.some }

pub returns-then-not-inputs_sound : goal.returns-then-not-inputs_sound
returns-then-not-inputs_sound c =
    let a = c.args in
    decided (ls a.e a.d a.n a.s.now) (ms a.e a.n a.s.now a.delay a.times) _ c.sheet_for.ensures (said_ok _ _ c.in_ok-sheet_for.was)
    (here (both (sym c.in_range.ensures ∙ c.if-not-in_range.false)
    (sym c.inputs_sound.ensures ∙ c.if-not-inputs_sound.true)))

pub returns : goal.returns
returns c =
    let a = c.args in
    decided (ls a.e a.d a.n a.s.now) (ms a.e a.n a.s.now a.delay a.times) _ c.sheet_for.ensures (said_ok _ _ c.in_ok-sheet_for.was)
    (later (both (sym c.in_range.ensures ∙ c.if-not-in_range.false)
    (sym c.inputs_sound.ensures ∙ c.if-not-inputs_sound.false)) fine)

pub overflow_cast-n : goal.overflow_cast-n
overflow_cast-n c =
    let a = c.args in
    let w = sheet_through a.e a.d a.n a.s.now _ c.sheet_for.ensures
    (said_ok _ _ c.in_ok-sheet_for.was) in
    let g = good_sheet a.e a.d a.n a.s.now c.requires w.1 in
    omega (arith, (runnable a.e a.d a.n a.s.now c.requires (records a.e a.s.now) w.0 g).2)
