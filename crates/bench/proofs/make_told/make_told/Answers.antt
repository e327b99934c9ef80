-- `make_told` meets its contract: what n and the edition refuse, else the call in that edition. Assumes nothing.
use Rattle.std.proofs.Common.{Result}
use mathlib.Core.Path.{refl, sym, ap, ◌∙◌, subst}
use mathlib.Core.List.{List}
use Prim.Native.Nat.{ℕ}
use Rattle.sheets.specs.declared.kinds.Edition.{Edition}
use Rattle.sheets.specs.Edition.{IsEdition, edition_of}
use Rattle.sheets.proofs.Keeping.{is_edition}
use Rattle.refusals.specs.Verdicts.{Verdict}
use Rattle.refusals.specs.declared.verdicts.Refusal.{Refusal as Why}
use Rattle.refusals.specs.Refusals.{told_form}
use Rattle.refusals.proofs.Lines.{left_to}
use Rattle.refusals.proofs.Refusing.{form_refuses}
use Rattle.bench.specs.MakeSheet.{make_answer, sheet_for, cells_in, make_lines, make_done, make_not, make_outcome}
use Rattle.refusals.proofs.Results.{said_ok, said_err, refused_with}
use Rattle.bench.proofs.make_told.make_told.Goals as goal

pub returns-in_err-told : goal.returns-in_err-told
returns-in_err-told c =
    let a = c.args in
    ap (λ (r : Result ℕ Why). record { answer = make_answer r; sheet = a.sheet.now; work = a.work.now })
    (refused_with _ _ c.from_residual.ensures.1)
    ∙ form_refuses (told_form a.w a.n)
    (make_lines (edition_of a.w) a.desk a.n a.k a.t.now a.sheet.now a.work.now)
    (make_done (edition_of a.w) a.desk (cells_in (sheet_for a.n a.k a.t.now)) a.sheet.now
    a.work.now) (λ (v : Verdict) (l : List ℕ). record {
      answer = record { verdict = v; count = 0 };
      sheet = a.sheet.now;
      work = l;
    }) a.work.now refl _ _ (sym (said_err _ _ c.in_err-told.was) ∙ c.told.ensures) refl

pub make_in-requires : goal.make_in-requires
make_in-requires c = subst IsEdition (sym c.numbered.ensures) (is_edition _)

pub returns : goal.returns
unfolding make_outcome
returns c =
    let a = c.args in
    c.make_in.ensures ∙ ap (λ (e : Edition). make_outcome e a.desk a.n a.k a.t.now a.sheet.now
    a.work.now) c.numbered.ensures
    ∙ left_to (told_form a.w a.n) (make_lines (edition_of a.w) a.desk a.n a.k a.t.now a.sheet.now
    a.work.now)
    (make_done (edition_of a.w) a.desk (cells_in (sheet_for a.n a.k a.t.now)) a.sheet.now
    a.work.now) (make_not a.sheet.now a.work.now)
    _ c.told.ensures (said_ok _ _ c.in_ok-told.was)
