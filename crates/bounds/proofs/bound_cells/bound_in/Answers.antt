-- `bound_in` meets its contract: what form and room refuse, else the bound. Assumes nothing.
use Rattle.std.proofs.Common.{Result, Ok}
use mathlib.Core.Path.{refl, sym, ap, ap₂, ◌∙◌}
use mathlib.Core.List.{List, []}
use Prim.Native.Nat.{ℕ}
use native.Mathlib.Omega.{arith}
use Rattle.refusals.specs.Verdicts.{Verdict}
use Rattle.refusals.specs.declared.verdicts.Refusal.{Refusal as Why}
use Rattle.refusals.specs.Lines.{reply}
use Rattle.refusals.proofs.Refusing.{form_refuses}
use Rattle.refusals.proofs.Results.{said_ok, said_err, refused_with}
use Rattle.finding.specs.FindBest.{find_form}
use Rattle.finding.proofs.Ready.{ready}
use Rattle.bounds.specs.BoundCells.{bound_answer, bound_done, bound_not}
use Rattle.bounds.proofs.bound_cells.bound_in.Goals as goal

pub returns-in_err-find_form : goal.returns-in_err-find_form
returns-in_err-find_form c =
    let a = c.args in
    ap (λ (r : Result ℕ Why). record { answer = bound_answer r; work = a.work.now })
    (refused_with _ _ c.from_residual.ensures.1)
    ∙ form_refuses (find_form a.e a.n a.k a.t.now a.work.now) []
    (bound_done a.n a.k a.t.now a.work.now) (λ (v : Verdict) (l : List ℕ). record {
      answer = record { verdict = v; least = 0 };
      work = l;
    }) a.work.now refl _ _ (sym (said_err _ _ c.in_err-find_form.was) ∙ c.find_form.ensures) refl

pub overflow_cast-n : goal.overflow_cast-n
overflow_cast-n c =
    let a = c.args in
    let w = ready a.e a.n a.k a.t.now a.work.now _ c.find_form.ensures (said_ok _ _ c.in_ok-find_form.was) in
    omega (arith, w.gate.most)

pub overflow_cast-k : goal.overflow_cast-k
overflow_cast-k c =
    let a = c.args in
    let w = ready a.e a.n a.k a.t.now a.work.now _ c.find_form.ensures (said_ok _ _ c.in_ok-find_form.was) in
    omega (arith, w.gate.largest, c.requires.eight)

pub cell_bound-requires : goal.cell_bound-requires
cell_bound-requires c =
    let a = c.args in
    let r = ready a.e a.n a.k a.t.now a.work.now _ c.find_form.ensures (said_ok _ _ c.in_ok-find_form.was) in
    let w = r.gate in
    (w.some, w.most, w.two, omega (arith, w.largest, c.requires.eight), w.long, r.area)

pub returns : goal.returns
returns c =
    let a = c.args in
    ap₂ (λ (m : ℕ) (l : List ℕ). record { answer = bound_answer (Ok m); work = l })
    c.cell_bound.ensures.0 c.cell_bound.ensures.1
    ∙ ap (λ (v : Verdict). reply v (bound_done a.n a.k a.t.now a.work.now) (bound_not a.work.now))
    (sym (said_ok _ _ c.in_ok-find_form.was) ∙ c.find_form.ensures)
