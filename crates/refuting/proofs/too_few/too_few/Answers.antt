-- `too_few` meets its contract: what n and the edition refuse, else the call in that edition. Assumes nothing.
use mathlib.Core.Path.{refl, sym, ap, subst, ◌∙◌}
use Rattle.sheets.specs.declared.kinds.Edition.{Edition}
use Rattle.sheets.specs.Edition.{IsEdition, edition_of}
use Rattle.sheets.proofs.Keeping.{is_edition}
use Rattle.refusals.specs.Verdicts.{Verdict}
use Rattle.refusals.specs.Lines.{verdict}
use Rattle.refusals.specs.Refusals.{told_form}
use Rattle.refuting.specs.TooFew.{few_in, few_after, too_few_outcome}
use Rattle.refusals.proofs.Lines.{goes_on}
use Rattle.refuting.proofs.Answering.{form_stops}
use Rattle.refusals.proofs.Results.{said_ok, handed_on}
use Rattle.refuting.proofs.too_few.too_few.Goals as goal

pub returns-in_err-told : goal.returns-in_err-told
unfolding too_few_outcome
returns-in_err-told c =
    let a = c.args in
    let rest = few_in (edition_of a.w) a.n a.k a.m a.t.now a.c.now a.work.now in
    ap (λ (v : Verdict). record { verdict = v; work = a.work.now }) (handed_on _ _ c.from_residual.ensures.1)
    ∙ form_stops (told_form a.w a.n) rest a.work.now refl _ c.told.ensures _ c.in_err-told.was

pub few_in-requires : goal.few_in-requires
few_in-requires c = subst IsEdition (sym c.numbered.ensures) (is_edition _)

pub returns : goal.returns
unfolding too_few_outcome
returns c =
    let a = c.args in
    let rest = few_in (edition_of a.w) a.n a.k a.m a.t.now a.c.now a.work.now in
    c.few_in.ensures
    ∙ ap (λ (e : Edition). few_after a.work.now (verdict (few_in e a.n a.k a.m a.t.now a.c.now a.work.now)))
    c.numbered.ensures
    ∙ ap (few_after a.work.now)
    (goes_on (told_form a.w a.n) rest _ c.told.ensures (said_ok _ _ c.in_ok-told.was) refl)
