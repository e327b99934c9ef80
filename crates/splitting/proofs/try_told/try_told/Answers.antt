-- `try_told` meets its contract: what n and the edition refuse, else the call in that edition. Assumes nothing.
use Rattle.std.proofs.Common.{Result}
use mathlib.Core.Path.{refl, sym, ap, ◌∙◌, subst}
use Rattle.sheets.specs.declared.kinds.Edition.{Edition}
use Rattle.sheets.specs.Edition.{IsEdition, edition_of}
use Rattle.sheets.proofs.Keeping.{is_edition}
use Rattle.charts.specs.declared.pair.FirstCells.{FirstCells}
use Rattle.refusals.specs.declared.verdicts.Refusal.{Refusal as Why}
use Rattle.refusals.specs.Refusals.{told_form}
use Rattle.refusals.proofs.Lines.{left_to}
use Rattle.splitting.specs.TrySplit.{try_answer, try_lines, try_done, try_not, try_outcome}
use Rattle.splitting.proofs.Sets.{refused_before}
use Rattle.refusals.proofs.Results.{said_ok, refused_with}
use Rattle.splitting.proofs.try_told.try_told.Goals as goal

pub returns-in_err-told : goal.returns-in_err-told
returns-in_err-told c =
    let a = c.args in
    ap (λ (r : Result FirstCells Why). record { answer = try_answer r; room = a.room.now })
    (refused_with _ _ c.from_residual.ensures.1)
    ∙ refused_before (told_form a.w a.n)
    (try_lines (edition_of a.w) a.n a.k 1 a.own a.shared a.t.now a.room.now) refl a.n a.own
    a.shared a.t.now a.room.now (try_done a.n 1 a.own a.shared a.t.now a.room.now)
    _ _ c.told.ensures c.in_err-told.was

pub try_in-requires : goal.try_in-requires
try_in-requires c = subst IsEdition (sym c.numbered.ensures) (is_edition _)

pub returns : goal.returns
unfolding try_outcome
returns c =
    let a = c.args in
    c.try_in.ensures ∙ ap (λ (e : Edition). try_outcome e a.n a.k 1 a.own a.shared a.t.now
    a.room.now) c.numbered.ensures
    ∙ left_to (told_form a.w a.n) (try_lines (edition_of a.w) a.n a.k 1 a.own a.shared a.t.now
    a.room.now)
    (try_done a.n 1 a.own a.shared a.t.now a.room.now)
    (try_not a.n a.own a.shared a.t.now a.room.now) _ c.told.ensures
    (said_ok _ _ c.in_ok-told.was)
