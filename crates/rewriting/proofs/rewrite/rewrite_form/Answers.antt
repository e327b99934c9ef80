-- `rewrite_form` meets its contract: each return is the first line that holds, or that none does. Assumes nothing.
use mathlib.Core.Path.{sym, ◌∙◌}
use mathlib.Core.List.{[], ◌∷◌}
use Prim.Native.Nat.{◌*◌, ◌≤◌}
use native.Mathlib.Omega.{arith}
use lib.ListN.{length}
use borrow.Author.Tests.{lt-ltb, le-ltb}
use Rattle.tables.specs.Table.{most_inputs}
use Rattle.sheets.specs.Edition.{most_records}
use Rattle.refusals.specs.Refusals.{bad_inputs, short_records, read_sheet_lines}
use Rattle.refusals.proofs.Lines.{here, later, decides, passes}
use Rattle.refusals.proofs.Tests.{few_inputs}
use Rattle.rewriting.specs.Rewrite.{rewrite_lines}
use Rattle.rewriting.proofs.rewrite.rewrite_form.Goals as goal

pub returns-then-bad_inputs : goal.returns-then-bad_inputs
returns-then-bad_inputs c =
    let a = c.args in
    decides (rewrite_lines a.e a.f a.d a.n a.s.now a.room.now)
    (here (sym c.bad_inputs.ensures ∙ c.if-bad_inputs.true))

pub returns-then-room-f : goal.returns-then-room-f
returns-then-room-f c =
    let a = c.args in
    decides (rewrite_lines a.e a.f a.d a.n a.s.now a.room.now)
    (later (sym c.bad_inputs.ensures ∙ c.if-bad_inputs.false)
    (here (lt-ltb (length a.room.now) (a.f.size * most_records) c.if-room-f.true)))

pub returns : goal.returns
returns c =
    let a = c.args in
    c.read_sheet.ensures
    ∙ sym (passes (bad_inputs a.n ∷ short_records a.f a.room.now ∷ [])
    (read_sheet_lines a.e a.d a.n a.s.now) (
      sym c.bad_inputs.ensures ∙ c.if-bad_inputs.false,
      (le-ltb (length a.room.now) (a.f.size * most_records) c.if-room-f.false, tt),
    ))

pub overflow_cast-n : goal.overflow_cast-n
overflow_cast-n c =
    let few : c.args.n ≤ most_inputs = few_inputs _ c.bad_inputs.ensures c.if-bad_inputs.false in
    omega arith

pub read_sheet-requires : goal.read_sheet-requires
read_sheet-requires c = (c.requires.0, few_inputs _ c.bad_inputs.ensures c.if-bad_inputs.false)
