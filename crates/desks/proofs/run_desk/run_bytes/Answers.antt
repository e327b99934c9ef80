-- `run_bytes` meets its contract: a refusal is its lines' verdict, and where these are in order the desk can be run.
-- Assumes nothing.
use mathlib.Core.Path.{sym, ap, ◌∙◌, subst}
use mathlib.Core.Bool.{Bool, false}
use mathlib.Core.List.{List}
use Prim.Native.Nat.{ℕ, ◌/◌}
use native.Mathlib.Omega.{arith}
use lib.ListN.{length}
use lib.Pow.{pow_mono}
use Rattle.tables.specs.Table.{most_inputs}
use Rattle.sheets.specs.declared.kinds.Edition.{Edition}
use Rattle.sheets.specs.Edition.{record_size, first_edition}
use Rattle.sheets.specs.Sheet.{sheet_bit}
use Rattle.refusals.specs.Verdicts.{Verdict, Fine}
use Rattle.refusals.specs.Lines.{reply}
use Rattle.running.specs.RunSheet.{run_done, run_not, run_answer}
use Rattle.cards.specs.Card.{inputs_on, sheet_on}
use Rattle.cards.specs.RunDesk.{desk_lines, desk_outcome}
use Rattle.cards.proofs.Desks.{Ready, ready}
use Rattle.refusals.proofs.Results.{said_ok, refused_with, replied}
use Rattle.desks.proofs.run_desk.run_bytes.Goals as goal

pub returns-in_err-own_form : goal.returns-in_err-own_form
unfolding desk_outcome
returns-in_err-own_form c =
    let o = c.args.o.now in
    ap run_answer (refused_with _ _ c.from_residual.ensures.1)
    ∙ replied (desk_lines o c.args.d c.args.x) _ c.own_form.ensures _
    (run_done first_edition (inputs_on o) (sheet_on o) c.args.x) run_not c.in_err-own_form.was

pub overflow_cast-o : goal.overflow_cast-o
overflow_cast-o c =
    let able = ready c.args.o.now c.args.d c.args.x c.requires.0 (sym c.own_form.ensures ∙ (said_ok _ _ c.in_ok-own_form.was)) in
    omega (arith, able.0.2)

pub overflow_cast-x : goal.overflow_cast-x
overflow_cast-x c =
    let o = c.args.o.now in
    let able = ready o c.args.d c.args.x c.requires.0 (sym c.own_form.ensures ∙ (said_ok _ _ c.in_ok-own_form.was)) in
    omega (arith, able.1, pow_mono {i = inputs_on o} {j = most_inputs} able.0.2)

pub bit_of-requires : goal.bit_of-requires
bit_of-requires c =
    let o = c.args.o.now in
    let x = c.args.x in
    let able = ready o c.args.d x c.requires.0 (sym c.own_form.ensures ∙ (said_ok _ _ c.in_ok-own_form.was)) in
    let w = subst (λ (e : Edition). Ready e (inputs_on o) c.sheet_on-s.result.now x)
    (sym c.first.ensures)
    (subst (λ (s : List ℕ). Ready first_edition (inputs_on o) s x) (sym c.sheet_on-s.ensures)
    able) in
    record { edition = w.0; x_bound = w.1 }

pub returns : goal.returns
unfolding desk_outcome
returns c =
    let o = c.args.o.now in
    let x = c.args.x in
    let n = inputs_on o in
    let bit = c.bit_of.ensures
    ∙ ap (λ (e : Edition). sheet_bit e n c.sheet_on-s.result.now
    (length c.sheet_on-s.result.now / record_size) x) c.first.ensures
    ∙ ap (λ (s : List ℕ). sheet_bit first_edition n s (length s / record_size) x) c.sheet_on-s.ensures in
    ap (λ (b : Bool). record { verdict = Fine; bit = b }) bit
    ∙ ap (λ (v : Verdict). reply v (run_done first_edition n (sheet_on o) x) run_not)
    (sym (said_ok _ _ c.in_ok-own_form.was)
    ∙ c.own_form.ensures)
