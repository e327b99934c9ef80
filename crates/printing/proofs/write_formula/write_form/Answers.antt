-- `write_form` meets its contract: each return is the first line that holds, or that none does. Assumes nothing.
use mathlib.Core.Path.{◌≡◌, sym, ap, ◌∙◌}
use mathlib.Core.Bool.{false, not}
use mathlib.Core.List.{List, [], ◌∷◌, ◌++◌}
use Prim.Native.Nat.{ℕ, ◌*◌, ◌≤◌}
use native.Mathlib.Omega.{arith}
use lib.ListN.{length}
use borrow.Author.Tests.{lt-ltb, le-ltb}
use Rattle.tables.specs.Table.{most_inputs}
use Rattle.sheets.specs.declared.kinds.Edition.{Edition}
use Rattle.sheets.specs.Sheet.{records}
use Rattle.refusals.specs.Lines.{verdict}
use Rattle.refusals.specs.Refusals.{bad_inputs, sheet_lines}
use Rattle.refusals.proofs.Lines.{fine, here, later, decides, in_order_lem, passes, decided}
use Rattle.refusals.proofs.Tests.{few_inputs}
use Rattle.refusals.proofs.Sheets.{good_sheet}
use Rattle.formulas.specs.Text.{most_text}
use Rattle.printing.specs.Printable.{not_printed}
use Rattle.printing.specs.WriteFormula.{short_text, write_lines}
use Rattle.refusals.proofs.Results.{said_ok, handed_on, stopped_by}
use Rattle.printing.proofs.write_formula.write_form.Goals as goal

pub returns-then-bad_inputs : goal.returns-then-bad_inputs
returns-then-bad_inputs c =
    let a = c.args in
    decides (write_lines a.e a.d a.n a.s.now a.room.now)
    (here (sym c.bad_inputs.ensures ∙ c.if-bad_inputs.true))

pub returns-then-room-lt-MOST_TEXT : goal.returns-then-room-lt-MOST_TEXT
returns-then-room-lt-MOST_TEXT c =
    let a = c.args in
    decides (write_lines a.e a.d a.n a.s.now a.room.now)
    (later (sym c.bad_inputs.ensures ∙ c.if-bad_inputs.false)
    (here (lt-ltb (length a.room.now) most_text c.if-room-lt-MOST_TEXT.true)))

-- after the looks at n and at the room, which let them through: the lines behind those decide
behind : (e : Edition) (d n : ℕ) (s room : List ℕ) → (bad_inputs n).holds ≡ false → most_text ≤ length room
    → verdict (sheet_lines e d n s ++ (not_printed e n s ∷ [])) ≡ verdict (write_lines e d n s room)
behind e d n s room few long =
    sym (passes (bad_inputs n ∷ short_text room ∷ []) (sheet_lines e d n s ++ (not_printed e n s ∷ []))
    (few, (le-ltb (length room) most_text long, tt)))

pub overflow_cast-inputs : goal.overflow_cast-inputs
overflow_cast-inputs c =
    let few : c.args.n ≤ most_inputs = few_inputs _ c.bad_inputs.ensures c.if-bad_inputs.false in
    omega arith

pub sheet-requires : goal.sheet-requires
sheet-requires c = (c.requires, few_inputs _ c.bad_inputs.ensures c.if-bad_inputs.false)

pub returns-in_err-sheet : goal.returns-in_err-sheet
returns-in_err-sheet c =
    let a = c.args in
    handed_on _ _ c.from_residual.ensures.1
    ∙ stopped_by (sheet_lines a.e a.d a.n a.s.now) (not_printed a.e a.n a.s.now ∷ []) _ c.sheet.ensures _ c.in_err-sheet.was
    ∙ behind a.e a.d a.n a.s.now a.room.now (sym c.bad_inputs.ensures ∙ c.if-bad_inputs.false)
    c.if-room-lt-MOST_TEXT.false

pub is_printed-requires : goal.is_printed-requires
is_printed-requires c =
    let a = c.args in
    let g = good_sheet a.e a.d a.n a.s.now c.requires
    (in_order_lem (sheet_lines a.e a.d a.n a.s.now) (sym c.sheet.ensures ∙ (said_ok _ _ c.in_ok-sheet.was))) in
    let long : a.e.size * records a.e a.s.now ≤ length a.s.now = omega (arith, g.whole) in
    (c.requires, g.most, long, g.some, few_inputs _ c.bad_inputs.ensures c.if-bad_inputs.false)

pub returns-then-not-is_printed : goal.returns-then-not-is_printed
returns-then-not-is_printed c =
    let a = c.args in
    decided (sheet_lines a.e a.d a.n a.s.now) (not_printed a.e a.n a.s.now ∷ []) _ c.sheet.ensures (said_ok _ _ c.in_ok-sheet.was)
    (here (ap not (sym c.is_printed.ensures ∙ c.if-not-is_printed.true)))
    ∙ behind a.e a.d a.n a.s.now a.room.now (sym c.bad_inputs.ensures ∙ c.if-bad_inputs.false)
    c.if-room-lt-MOST_TEXT.false

pub returns : goal.returns
returns c =
    let a = c.args in
    decided (sheet_lines a.e a.d a.n a.s.now) (not_printed a.e a.n a.s.now ∷ []) _ c.sheet.ensures (said_ok _ _ c.in_ok-sheet.was)
    (later (ap not (sym c.is_printed.ensures ∙ c.if-not-is_printed.false)) fine)
    ∙ behind a.e a.d a.n a.s.now a.room.now (sym c.bad_inputs.ensures ∙ c.if-bad_inputs.false)
    c.if-room-lt-MOST_TEXT.false
