-- `write_in` meets its contract: a refusal is its lines' verdict, and where these are in order the last record has
-- room. Assumes nothing.
use Rattle.std.proofs.Common.{Result}
use mathlib.Core.Path.{◌≡◌, sym, ap, ◌∙◌}
use mathlib.Core.List.{List}
use Prim.Native.Nat.{ℕ}
use native.Mathlib.Omega.{arith}
use Rattle.sheets.specs.declared.kinds.Edition.{Edition}
use Rattle.sheets.specs.Edition.{IsEdition}
use Rattle.refusals.specs.Verdicts.{Verdict, Fine}
use Rattle.refusals.specs.declared.verdicts.Refusal.{Refusal as Why}
use Rattle.refusals.specs.Lines.{verdict, reply}
use Rattle.refusals.proofs.Lines.{in_order_lem}
use Rattle.printing.specs.WriteFormula.{write_lines, write_done, write_not, write_answer, write_outcome}
use Rattle.printing.proofs.Printing.{Sound, sound, ready, written}
use Rattle.refusals.proofs.Results.{said_ok, refused_with, replied}
use Rattle.printing.proofs.write_formula.write_in.Goals as goal

pub returns-in_err-write_form : goal.returns-in_err-write_form
unfolding write_outcome
returns-in_err-write_form c =
    let a = c.args in
    let done = write_done a.e a.n a.s.now a.room.now in
    let not = write_not a.room.now in
    ap (λ (r : Result ℕ Why). record { answer = write_answer r; room = a.room.now })
    (refused_with _ _ c.from_residual.ensures.1)
    ∙ replied (write_lines a.e a.d a.n a.s.now a.room.now) _ c.write_form.ensures _ done not c.in_err-write_form.was

-- after the look at the form, which lets all through
looked : (e : Edition) (d n : ℕ) (s room : List ℕ) (v : Verdict) → IsEdition e → v ≡ verdict (write_lines e d n s room)
    → v ≡ Fine → Sound e n s room
looked e d n s room v h p q = sound e d n s room h (in_order_lem (write_lines e d n s room) (sym p ∙ q))

pub returns : goal.returns
unfolding write_outcome
returns c =
    let a = c.args in
    written (looked a.e a.d a.n a.s.now a.room.now _ c.requires c.write_form.ensures (said_ok _ _ c.in_ok-write_form.was))
    c.write.ensures
    ∙ ap (λ (v : Verdict). reply v (write_done a.e a.n a.s.now a.room.now) (write_not a.room.now))
    (sym (said_ok _ _ c.in_ok-write_form.was) ∙ c.write_form.ensures)

pub overflow_sub-last : goal.overflow_sub-last
overflow_sub-last c =
    let a = c.args in
    (looked a.e a.d a.n a.s.now a.room.now _ c.requires c.write_form.ensures (said_ok _ _ c.in_ok-write_form.was)).good.some

pub overflow_add-inputs : goal.overflow_add-inputs
overflow_add-inputs c =
    let a = c.args in
    let k = looked a.e a.d a.n a.s.now a.room.now _ c.requires c.write_form.ensures (said_ok _ _ c.in_ok-write_form.was) in
    omega (arith, k.inputs, k.good.most)

pub write-requires : goal.write-requires
write-requires c =
    let a = c.args in
    ready (looked a.e a.d a.n a.s.now a.room.now _ c.requires c.write_form.ensures (said_ok _ _ c.in_ok-write_form.was))
