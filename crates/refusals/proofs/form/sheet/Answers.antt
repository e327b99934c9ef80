-- `sheet` meets its contract: what the look saw is the first of lines 9 and 10 that holds, or that none does. Assumes
-- nothing.
use mathlib.Core.Path.{sym, ap, ◌∙◌, subst}
use Prim.Native.Nat.{ℕ}
use Rattle.std.proofs.Common.{Result}
use Rattle.records.specs.declared.rules.BadSheet.{BadSheet}
use Rattle.records.specs.Look.{Saw}
use Rattle.refusals.specs.Refusals.{sheet_lines}
use Rattle.refusals.proofs.Lines.{fine, here, later, decides}
use Rattle.refusals.proofs.Results.{handed_on}
use Rattle.refusals.proofs.Sheets.{said_bad, records_fine}
use Rattle.refusals.proofs.form.sheet.Goals as goal

pub returns-in_err-look : goal.returns-in_err-look
returns-in_err-look c =
    let a = c.args in
    handed_on _ _ c.from_residual.ensures.1 ∙ said_bad a.e a.d a.n a.s.now _ c.in_err-look.ensures

pub returns : goal.returns
returns c =
    let a = c.args in
    let w = subst (λ (r : Result ℕ BadSheet). Saw a.e a.d a.n a.s.now r) c.in_ok-look.was c.look.ensures in
    decides (sheet_lines a.e a.d a.n a.s.now)
    (later w.0 (later (records_fine a.e a.d a.n a.s.now _ w) fine))
