-- `bound_cells` meets its contract: what n and the edition refuse, else the bound in that edition. Assumes nothing.
use Rattle.std.proofs.Common.{Result}
use mathlib.Core.Path.{refl, sym, ap, ◌∙◌, subst}
use mathlib.Core.List.{List}
use Prim.Native.Nat.{ℕ}
use Rattle.sheets.specs.declared.kinds.Edition.{Edition}
use Rattle.sheets.specs.Edition.{IsEdition, edition_of}
use Rattle.sheets.proofs.Keeping.{is_edition}
use Rattle.refusals.specs.Verdicts.{Verdict}
use Rattle.refusals.specs.declared.verdicts.Refusal.{Refusal as Why}
use Rattle.refusals.specs.Refusals.{told_form}
use Rattle.refusals.proofs.Lines.{left_to}
use Rattle.refusals.proofs.Refusing.{form_refuses}
use Rattle.finding.specs.FindBest.{find_form}
use Rattle.bounds.specs.BoundCells.{bound_answer, bound_done, bound_not, bound_in, bound_outcome}
use Rattle.refusals.proofs.Results.{said_ok, said_err, refused_with}
use Rattle.bounds.proofs.bound_cells.bound_cells.Goals as goal

pub returns-in_err-told : goal.returns-in_err-told
unfolding bound_outcome
returns-in_err-told c =
    let a = c.args in
    ap (λ (r : Result ℕ Why). record { answer = bound_answer r; work = a.work.now })
    (refused_with _ _ c.from_residual.ensures.1)
    ∙ form_refuses (told_form a.w a.n) (find_form (edition_of a.w) a.n a.k a.t.now a.work.now)
    (bound_done a.n a.k a.t.now a.work.now) (λ (v : Verdict) (l : List ℕ). record {
      answer = record { verdict = v; least = 0 };
      work = l;
    }) a.work.now refl _ _ (sym (said_err _ _ c.in_err-told.was) ∙ c.told.ensures) refl

pub bound_in-requires : goal.bound_in-requires
bound_in-requires c = subst IsEdition (sym c.numbered.ensures) (is_edition _)

pub returns : goal.returns
unfolding bound_outcome
returns c =
    let a = c.args in
    c.bound_in.ensures ∙ ap (λ (e : Edition). bound_in e a.n a.k a.t.now a.work.now)
    c.numbered.ensures
    ∙ left_to (told_form a.w a.n) (find_form (edition_of a.w) a.n a.k a.t.now a.work.now)
    (bound_done a.n a.k a.t.now a.work.now)
    (bound_not a.work.now) _ c.told.ensures (said_ok _ _ c.in_ok-told.was)
