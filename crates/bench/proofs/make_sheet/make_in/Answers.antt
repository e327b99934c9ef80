-- `make_in` meets its contract: what form and room refuse, else the chain's sheet. Assumes nothing.
use Rattle.std.proofs.Common.{Result}
use mathlib.Core.Path.{◌≡◌, refl, sym, ap, ◌∙◌}
use mathlib.Core.List.{List, [], ◌∷◌}
use Prim.Native.Nat.{ℕ}
use native.Mathlib.Omega.{arith}
use Rattle.sheets.specs.declared.kinds.Edition.{Edition}
use Rattle.refusals.specs.Verdicts.{Verdict, Fine}
use Rattle.refusals.specs.declared.verdicts.Refusal.{Refusal as Why}
use Rattle.refusals.specs.Lines.{Line, verdict}
use Rattle.bench.specs.Refusals.{chain_stuck}
use Rattle.refusals.proofs.Lines.{in_order_lem, left_to}
use Rattle.refusals.proofs.Refusing.{form_refuses}
use Rattle.bench.specs.MakeSheet.{MakeOutcome, sheet_for, cells_in, make_answer, make_form, make_done, make_not, make_outcome}
use Rattle.bench.proofs.Ready.{Ready, ready}
use Rattle.bench.proofs.Written.{one_written}
use Rattle.refusals.proofs.Results.{said_ok, said_err, refused_with}
use Rattle.bench.proofs.make_sheet.make_in.Goals as goal

module _ (e : Edition) (d n k : ℕ) (t sheet work : List ℕ) where
  -- form and room; the line of the chain; what is left where nothing is wrong
  abbrev ls : List Line
  ls = make_form e d n k t sheet work

  abbrev ms : List Line
  ms = chain_stuck (sheet_for n k t) ∷ []

  abbrev done : MakeOutcome
  done = make_done e d (cells_in (sheet_for n k t)) sheet work

  -- both are in order
  through : (form : Verdict) → form ≡ verdict ls → form ≡ Fine → Ready e d n k t sheet work
  through form is fine = ready e d n k t sheet work (in_order_lem ls (sym is ∙ fine))

pub returns-in_err-make_form : goal.returns-in_err-make_form
unfolding make_outcome
returns-in_err-make_form c =
    let a = c.args in
    ap (λ (r : Result ℕ Why). record { answer = make_answer r; sheet = a.sheet.now; work = a.work.now })
    (refused_with _ _ c.from_residual.ensures.1)
    ∙ form_refuses (ls a.e a.d a.n a.k a.t.now a.sheet.now a.work.now)
    (ms a.e a.d a.n a.k a.t.now a.sheet.now a.work.now) (done a.e a.d a.n a.k a.t.now a.sheet.now a.work.now)
    (λ (v : Verdict) (l : List ℕ). record {
      answer = record { verdict = v; count = 0 };
      sheet = a.sheet.now;
      work = l;
    }) a.work.now refl _ _ (sym (said_err _ _ c.in_err-make_form.was) ∙ c.make_form.ensures) refl

pub write_chain-requires : goal.write_chain-requires
write_chain-requires c =
    let w = through c.args.e c.args.d c.args.n c.args.k c.args.t.now c.args.sheet.now c.args.work.now
    _ c.make_form.ensures (said_ok _ _ c.in_ok-make_form.was) in record { edition = (c.requires, w.gate.some, w.gate.most, omega arith, w.gate.two, w.gate.largest); t_len = (w.gate.long, w.records, w.area) }

pub returns : goal.returns
unfolding make_outcome
returns c =
    let a = c.args in
    let fine = (said_ok _ _ c.in_ok-make_form.was) in
    c.write_chain.ensures
    ∙ one_written a.e a.d a.sheet.now a.work.now a.n a.k a.t.now (through c.args.e c.args.d c.args.n c.args.k c.args.t.now c.args.sheet.now c.args.work.now
    _ c.make_form.ensures fine).gate
    ∙ left_to (ls a.e a.d a.n a.k a.t.now a.sheet.now a.work.now) (ms a.e a.d a.n a.k a.t.now a.sheet.now a.work.now) (done a.e a.d a.n a.k a.t.now a.sheet.now a.work.now) (make_not a.sheet.now a.work.now) _
    c.make_form.ensures fine

pub overflow_cast-d : goal.overflow_cast-d
overflow_cast-d c = omega (
  arith,
  (through c.args.e c.args.d c.args.n c.args.k c.args.t.now c.args.sheet.now c.args.work.now
      _ c.make_form.ensures (said_ok _ _ c.in_ok-make_form.was)).desk,
)

pub overflow_cast-n : goal.overflow_cast-n
overflow_cast-n c = omega (
  arith,
  (through c.args.e c.args.d c.args.n c.args.k c.args.t.now c.args.sheet.now c.args.work.now
      _ c.make_form.ensures (said_ok _ _ c.in_ok-make_form.was)).gate.most,
)

pub overflow_cast-k : goal.overflow_cast-k
overflow_cast-k c =
    omega (
      arith,
      (through c.args.e c.args.d c.args.n c.args.k c.args.t.now c.args.sheet.now c.args.work.now
          _ c.make_form.ensures (said_ok _ _ c.in_ok-make_form.was)).gate.largest,
      c.requires.eight,
    )
