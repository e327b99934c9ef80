-- `make_form` meets its contract: each return is the first line that holds, or that none does. Assumes nothing.
use mathlib.Core.Path.{◌≡◌, ◌∙◌}
use mathlib.Core.List.{List, [], ◌∷◌}
use Prim.Native.Nat.{ℕ, ◌*◌, ◌≤◌}
use native.Mathlib.Omega.{arith}
use lib.Dec.{ltb}
use lib.ListN.{length}
use borrow.Author.Tests.{lt-ltb, le-ltb}
use Rattle.bits.proofs.Bools.{or_left, or_right}
use Rattle.sheets.specs.Edition.{most_records, most_desk}
use Rattle.sheets.specs.declared.kinds.Edition.{Edition}
use Rattle.refusals.specs.Verdicts.{Verdict, Fine}
use Rattle.refusals.specs.Lines.{Line, verdict}
use Rattle.refusals.specs.Refusals.{gate_lines, bad_desk, short_sheet}
use Rattle.refusals.proofs.Lines.{First, fine, here, later, decided}
use Rattle.refusals.proofs.Lent.{both_long}
use Rattle.bench.specs.MakeSheet.{make_form}
use Rattle.refusals.proofs.Results.{said_ok, handed_on, stopped_by}
use Rattle.bench.proofs.make_sheet.make_form.Goals as goal

module _ (e : Edition) (d n k : ℕ) (t sheet work : List ℕ) where
  abbrev room : List Line
  room = short_sheet e sheet work ∷ []

  abbrev all : Verdict
  all = verdict (make_form e d n k t sheet work)

  module _ (gate : Verdict) (is : gate ≡ verdict (gate_lines e n k t)) (fine_is : gate ≡ Fine) where
    -- the gate is in order: the desk and the room decide
    past : {v : Verdict} → First (bad_desk d ∷ room) v → v ≡ all
    past = decided (gate_lines e n k t) _ _ is fine_is

    -- and so is the desk: the room decides
    beyond : d ≤ most_desk → {v : Verdict} → First room v → v ≡ all
    beyond low h = past (later (le-ltb most_desk d low) h)

pub returns-in_err-gate : goal.returns-in_err-gate
returns-in_err-gate c =
    let a = c.args in
    handed_on _ _ c.from_residual.ensures.1
    ∙ stopped_by (gate_lines a.e a.n a.k a.t.now) (bad_desk a.d ∷ room a.e a.d a.n a.k a.t.now a.sheet.now a.work.now) _ c.gate.ensures _ c.in_err-gate.was

pub returns-then-d : goal.returns-then-d
returns-then-d c =
    past c.args.e c.args.d c.args.n c.args.k c.args.t.now c.args.sheet.now c.args.work.now _ c.gate.ensures (said_ok _ _ c.in_ok-gate.was) (here (lt-ltb most_desk _ c.if-d.true))

pub overflow_mul-e : goal.overflow_mul-e
overflow_mul-e c = omega (arith, c.requires.short)

pub returns-then-sheet-e : goal.returns-then-sheet-e
returns-then-sheet-e c =
    beyond c.args.e c.args.d c.args.n c.args.k c.args.t.now c.args.sheet.now c.args.work.now _ c.gate.ensures (said_ok _ _ c.in_ok-gate.was) c.if-d.false (here (or_left _ _ (lt-ltb _ _ c.if-sheet-e.true)))

pub returns-then-work-lt-WORK : goal.returns-then-work-lt-WORK
returns-then-work-lt-WORK c =
    let a = c.args in
    beyond c.args.e c.args.d c.args.n c.args.k c.args.t.now c.args.sheet.now c.args.work.now _ c.gate.ensures (said_ok _ _ c.in_ok-gate.was) c.if-d.false (here (or_right (ltb (length a.sheet.now) (a.e.size * most_records)) _
    (lt-ltb _ _ c.if-work-lt-WORK.true)))

pub returns : goal.returns
returns c =
    let a = c.args in
    beyond c.args.e c.args.d c.args.n c.args.k c.args.t.now c.args.sheet.now c.args.work.now _ c.gate.ensures (said_ok _ _ c.in_ok-gate.was) c.if-d.false (later (both_long a.e a.sheet.now a.work.now c.if-sheet-e.false c.if-work-lt-WORK.false) fine)
