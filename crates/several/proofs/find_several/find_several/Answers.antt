-- `find_several` meets its contract: what form and room refuse, else what the search finds. Assumes nothing.
use Rattle.std.proofs.Common.{Result}
use mathlib.Core.Path.{◌≡◌, refl, sym, ap, ◌∙◌}
use mathlib.Core.List.{List}
use Prim.Native.Nat.{ℕ}
use native.Mathlib.Omega.{arith}
use Rattle.choices.specs.declared.over.Chosen.{Chosen}
use Rattle.sheets.specs.declared.kinds.Edition.{Edition}
use Rattle.sheets.specs.Edition.{first_edition}
use Rattle.refusals.specs.Verdicts.{Verdict}
use Rattle.refusals.specs.declared.verdicts.Refusal.{Refusal as Why}
use Rattle.refusals.specs.Lines.{verdict}
use Rattle.refusals.proofs.Lines.{left_to}
use Rattle.refusals.proofs.Refusing.{form_refuses}
use Rattle.refusals.proofs.Results.{said_ok, said_err, refused_with}
use Rattle.finding.specs.FindBest.{find_form}
use Rattle.finding.proofs.Ready.{ready}
use Rattle.several.specs.FindSeveral.{several_answer, best_several, several_says, several_done, several_not}
use Rattle.several.specs.FindSeveral.{find_several_outcome}
use Rattle.several.proofs.find_several.find_several.Goals as goal

-- the form is that of the first edition
told : (n K : ℕ) (t work : List ℕ) {e : Edition} {v : Verdict} → v ≡ verdict (find_form e n K t work)
    → e ≡ first_edition → v ≡ verdict (find_form first_edition n K t work)
told n K t work p q = p ∙ ap (λ (e : Edition). verdict (find_form e n K t work)) q

pub returns-in_err-find_form : goal.returns-in_err-find_form
unfolding find_several_outcome
returns-in_err-find_form c =
    let a = c.args in
    ap (λ (r : Result Chosen Why). record { answer = several_answer r; work = a.work.now })
    (refused_with _ _ c.from_residual.ensures.1)
    ∙ form_refuses (find_form first_edition a.n a.k a.t.now a.work.now) (several_says a.n a.k a.t.now)
    (several_done (best_several a.n a.k a.t.now) a.work.now) (λ (v : Verdict) (l : List ℕ). record {
      answer = record { verdict = v; first = 0; own = 0; shared = 0 };
      work = l;
    }) a.work.now refl _ _
    (sym (said_err _ _ c.in_err-find_form.was)
    ∙ told a.n a.k a.t.now a.work.now c.find_form.ensures c.first.ensures) refl

pub overflow_cast-n : goal.overflow_cast-n
overflow_cast-n c =
    let a = c.args in
    let told = told a.n a.k a.t.now a.work.now c.find_form.ensures c.first.ensures in
    let w = ready first_edition a.n a.k a.t.now a.work.now _ told (said_ok _ _ c.in_ok-find_form.was) in
    omega (arith, w.gate.most)

pub overflow_cast-k : goal.overflow_cast-k
overflow_cast-k c =
    let a = c.args in
    let told = told a.n a.k a.t.now a.work.now c.find_form.ensures c.first.ensures in
    let w = ready first_edition a.n a.k a.t.now a.work.now _ told (said_ok _ _ c.in_ok-find_form.was) in
    omega (arith, w.gate.largest)

pub search-requires : goal.search-requires
search-requires c =
    let a = c.args in
    let told = told a.n a.k a.t.now a.work.now c.find_form.ensures c.first.ensures in
    let w = ready first_edition a.n a.k a.t.now a.work.now _ told (said_ok _ _ c.in_ok-find_form.was) in
    (w.gate.most, omega (arith, w.gate.largest), w.gate.long, w.area)

pub returns : goal.returns
unfolding find_several_outcome
returns c =
    let a = c.args in
    c.search.ensures
    ∙ left_to (find_form first_edition a.n a.k a.t.now a.work.now) (several_says a.n a.k a.t.now)
    (several_done (best_several a.n a.k a.t.now) a.work.now) (several_not a.work.now) _
    (told a.n a.k a.t.now a.work.now c.find_form.ensures c.first.ensures) (said_ok _ _ c.in_ok-find_form.was)
