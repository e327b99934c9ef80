-- `read_sheet` meets its contract: what lines 9 and 10 refuse, else line 15. Assumes nothing.
use mathlib.Core.Path.{sym, ◌∙◌}
use mathlib.Core.List.{[], ◌∷◌}
use Rattle.refusals.specs.Refusals.{sheet_lines, unread_record}
use Rattle.refusals.proofs.Lines.{in_order_lem, goes_on}
use Rattle.refusals.proofs.Results.{said_ok, handed_on, stopped_by}
use Rattle.refusals.proofs.form.read_sheet.Goals as goal

pub returns-in_err-sheet : goal.returns-in_err-sheet
returns-in_err-sheet c =
    let a = c.args in
    handed_on _ _ c.from_residual.ensures.1
    ∙ stopped_by (sheet_lines a.e a.d a.n a.s.now) (unread_record a.e a.n a.s.now ∷ []) _ c.sheet.ensures _
    c.in_err-sheet.was

pub all_read-requires : goal.all_read-requires
all_read-requires c =
    let a = c.args in (
      c.requires.0,
      c.requires.1,
      in_order_lem (sheet_lines a.e a.d a.n a.s.now)
          (sym c.sheet.ensures ∙ said_ok _ _ c.in_ok-sheet.was),
    )

pub returns : goal.returns
returns c =
    let a = c.args in
    goes_on (sheet_lines a.e a.d a.n a.s.now) (unread_record a.e a.n a.s.now ∷ []) _
    c.sheet.ensures (said_ok _ _ c.in_ok-sheet.was) c.all_read.ensures
