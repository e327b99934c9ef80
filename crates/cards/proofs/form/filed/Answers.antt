-- `filed` meets its contract: each return is the first of the four lines that holds, or that none does. Assumes
-- nothing.
use mathlib.Core.Path.{sym, ap, ◌∙◌, subst}
use mathlib.Core.List.{[], ◌∷◌}
use Prim.Native.Nat.{◌≤◌}
use native.Mathlib.Omega.{arith}
use Rattle.tables.specs.Table.{most_inputs}
use Rattle.sheets.specs.declared.kinds.Edition.{Edition}
use Rattle.sheets.specs.Edition.{IsEdition, first_edition}
use Rattle.sheets.proofs.Keeping.{first_edition_lem}
use Rattle.refusals.specs.Lines.{verdict}
use Rattle.refusals.specs.Refusals.{bad_inputs, read_sheet_lines}
use Rattle.refusals.proofs.Lines.{here, decides, passes}
use Rattle.refusals.proofs.Tests.{few_inputs}
use Rattle.cards.specs.Refusals.{filed_lines}
use Rattle.cards.proofs.form.filed.Lts as lts
use Rattle.cards.proofs.form.filed.Reads as reads
use Rattle.cards.proofs.form.filed.Tie as tie
use Rattle.cards.proofs.form.filed.Goals as goal

pub returns-then-bad_inputs : goal.returns-then-bad_inputs
returns-then-bad_inputs c =
    let a = c.args in
    decides (filed_lines a.d a.n a.s.now)
    (here (sym c.bad_inputs.ensures ∙ c.if-bad_inputs.true))

few : (c : lts.After-first tie.the-claims reads.Pre reads.Post) → c.args.n ≤ most_inputs
few c = few_inputs _ c.bad_inputs.ensures c.if-bad_inputs.false

pub returns : goal.returns
returns c =
    let a = c.args in
    c.read_sheet.ensures
    ∙ ap (λ (e : Edition). verdict (read_sheet_lines e a.d a.n a.s.now)) c.first.ensures
    ∙ sym (passes (bad_inputs a.n ∷ []) (read_sheet_lines first_edition a.d a.n a.s.now)
    (sym c.bad_inputs.ensures ∙ c.if-bad_inputs.false, tt))

pub overflow_cast-n : goal.overflow_cast-n
overflow_cast-n c = omega (arith, few c.before)

pub read_sheet-requires : goal.read_sheet-requires
read_sheet-requires c = (subst IsEdition (sym c.first.ensures) first_edition_lem, few c.before)
