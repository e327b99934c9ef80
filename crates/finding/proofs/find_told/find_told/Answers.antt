-- `find_told` meets its contract: what n and the edition refuse, else the call in that edition. Assumes nothing.
use Rattle.std.proofs.Common.{Result}
use mathlib.Core.Path.{refl, sym, ap, ◌∙◌, subst}
use mathlib.Core.List.{List}
use Prim.Native.Nat.{ℕ}
use Rattle.sheets.specs.declared.kinds.Edition.{Edition}
use Rattle.sheets.specs.Edition.{IsEdition, edition_of}
use Rattle.sheets.proofs.Keeping.{is_edition}
use Rattle.best.specs.declared.Masks.{Masks}
use Rattle.refusals.specs.Verdicts.{Verdict}
use Rattle.refusals.specs.declared.verdicts.Refusal.{Refusal as Why}
use Rattle.refusals.specs.Refusals.{told_form}
use Rattle.refusals.proofs.Lines.{left_to}
use Rattle.refusals.proofs.Refusing.{form_refuses}
use Rattle.finding.specs.FindBest.{find_answer, best_for, find_lines, find_done, find_not, find_outcome}
use Rattle.refusals.proofs.Results.{said_ok, said_err, refused_with}
use Rattle.finding.proofs.find_told.find_told.Goals as goal

pub returns-in_err-told : goal.returns-in_err-told
returns-in_err-told c =
    let a = c.args in
    ap (λ (r : Result Masks Why). record { answer = find_answer r; work = a.work.now })
    (refused_with _ _ c.from_residual.ensures.1)
    ∙ form_refuses (told_form a.w a.n) (find_lines (edition_of a.w) a.n a.k a.t.now a.work.now)
    (find_done (best_for a.n a.k a.t.now) a.work.now) (λ (v : Verdict) (l : List ℕ). record {
      answer = record { verdict = v; own = 0; shared = 0 };
      work = l;
    }) a.work.now refl _ _ (sym (said_err _ _ c.in_err-told.was) ∙ c.told.ensures) refl

pub find_in-requires : goal.find_in-requires
find_in-requires c = subst IsEdition (sym c.numbered.ensures) (is_edition _)

pub returns : goal.returns
unfolding find_outcome
returns c =
    let a = c.args in
    c.find_in.ensures ∙ ap (λ (e : Edition). find_outcome e a.n a.k a.t.now a.work.now)
    c.numbered.ensures
    ∙ left_to (told_form a.w a.n) (find_lines (edition_of a.w) a.n a.k a.t.now a.work.now)
    (find_done (best_for a.n a.k a.t.now) a.work.now)
    (find_not a.work.now) _ c.told.ensures (said_ok _ _ c.in_ok-told.was)
