-- `find_in` meets its contract: what form and room refuse, else what the search finds. Assumes nothing.
use Rattle.std.proofs.Common.{Result}
use mathlib.Core.Path.{refl, sym, ap, ◌∙◌}
use mathlib.Core.List.{List}
use Prim.Native.Nat.{ℕ}
use native.Mathlib.Omega.{arith}
use Rattle.best.specs.declared.Masks.{Masks}
use Rattle.refusals.specs.Verdicts.{Verdict}
use Rattle.refusals.specs.declared.verdicts.Refusal.{Refusal as Why}
use Rattle.refusals.proofs.Lines.{left_to}
use Rattle.refusals.proofs.Refusing.{form_refuses}
use Rattle.refusals.proofs.Results.{said_ok, said_err, refused_with}
use Rattle.finding.specs.FindBest.{find_answer, best_for, find_form, find_says, find_done, find_not, find_outcome}
use Rattle.finding.proofs.Ready.{ready}
use Rattle.finding.proofs.find_best.find_in.Goals as goal

pub returns-in_err-find_form : goal.returns-in_err-find_form
unfolding find_outcome
returns-in_err-find_form c =
    let a = c.args in
    ap (λ (r : Result Masks Why). record { answer = find_answer r; work = a.work.now })
    (refused_with _ _ c.from_residual.ensures.1)
    ∙ form_refuses (find_form a.e a.n a.k a.t.now a.work.now) (find_says a.n a.k a.t.now)
    (find_done (best_for a.n a.k a.t.now) a.work.now) (λ (v : Verdict) (l : List ℕ). record {
      answer = record { verdict = v; own = 0; shared = 0 };
      work = l;
    }) a.work.now refl _ _ (sym (said_err _ _ c.in_err-find_form.was) ∙ c.find_form.ensures) refl

pub overflow_cast-n : goal.overflow_cast-n
overflow_cast-n c =
    let a = c.args in
    let w = ready a.e a.n a.k a.t.now a.work.now _ c.find_form.ensures (said_ok _ _ c.in_ok-find_form.was) in
    omega (arith, w.gate.most)

pub overflow_cast-k : goal.overflow_cast-k
overflow_cast-k c =
    let a = c.args in
    let w = ready a.e a.n a.k a.t.now a.work.now _ c.find_form.ensures (said_ok _ _ c.in_ok-find_form.was) in
    omega (arith, w.gate.largest, c.requires.eight)

pub search-requires : goal.search-requires
search-requires c =
    let a = c.args in
    let w = ready a.e a.n a.k a.t.now a.work.now _ c.find_form.ensures (said_ok _ _ c.in_ok-find_form.was) in
    (w.gate.most, omega (arith, w.gate.largest, c.requires.eight), w.gate.long, w.area)

pub returns : goal.returns
unfolding find_outcome
returns c =
    let a = c.args in
    c.search.ensures
    ∙ left_to (find_form a.e a.n a.k a.t.now a.work.now) (find_says a.n a.k a.t.now)
    (find_done (best_for a.n a.k a.t.now) a.work.now) (find_not a.work.now) _ c.find_form.ensures
    (said_ok _ _ c.in_ok-find_form.was)
