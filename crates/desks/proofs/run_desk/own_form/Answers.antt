-- `own_form` meets its contract: 18, then what looking over the desk's sheet comes to, then 11. Assumes nothing.
use mathlib.Core.Path.{◌≡◌, sym, ap, ◌∙◌}
use mathlib.Core.Bool.{not}
use mathlib.Core.List.{List, [], ◌∷◌, ◌++◌}
use Prim.Native.Nat.{ℕ, ◌^◌, ◌<◌, ◌≤◌}
use native.Mathlib.Omega.{arith}
use borrow.Author.Tests.{ne_eqb, le-leb, lt-leb}
use Rattle.bits.proofs.Machine.{shl_one}
use Rattle.tables.specs.Table.{most_inputs}
use Rattle.refusals.specs.Verdicts.{Verdict, Fine}
use Rattle.refusals.specs.Lines.{Line, verdict}
use Rattle.refusals.specs.Refusals.{bad_assignment}
use Rattle.refusals.proofs.Lines.{fine, here, later, decides, in_order_lem, decided}
use Rattle.refusals.proofs.Tests.{inside}
use Rattle.cards.specs.Card.{open_mark, inputs_on, sheet_on}
use Rattle.cards.specs.Refusals.{filed_lines}
use Rattle.cards.specs.RunDesk.{desk_lines}
use Rattle.cards.proofs.Desks.{open_lines}
use Rattle.refusals.proofs.Results.{said_ok, handed_on, stopped_by}
use Rattle.desks.proofs.run_desk.own_form.Goals as goal

pub returns-then-o-ne1 : goal.returns-then-o-ne1
returns-then-o-ne1 c =
    let o = c.args.o.now in
    decides (desk_lines o c.args.d c.args.x)
    (later c.requires.1 (here (ap not (ne_eqb (open_mark o) 1 c.if-o-ne1.true))))

-- after the look at its sheet
module _ (o : List ℕ) (d x : ℕ) where
  abbrev ls : List Line
  ls = filed_lines d (inputs_on o) (sheet_on o)

  abbrev ms : List Line
  ms = bad_assignment (inputs_on o) x ∷ []

  module _ (v : Verdict) (t : List ℕ) (looked : v ≡ verdict (filed_lines d (inputs_on o) t)) (lent : t ≡ sheet_on o) where
    seen : v ≡ verdict ls
    seen = looked ∙ ap (λ (s : List ℕ). verdict (filed_lines d (inputs_on o) s)) lent

    few : v ≡ Fine → inputs_on o < 64
    few e = omega (arith, inside 1 (inputs_on o) most_inputs (in_order_lem ls (sym seen ∙ e)).0)

pub returns-in_err-filed : goal.returns-in_err-filed
returns-in_err-filed c =
    let a = c.args in
    let o = a.o.now in
    handed_on _ _ c.from_residual.ensures.1
    ∙ stopped_by (ls o a.d a.x) (ms o a.d a.x) _ (seen o a.d a.x _ _ c.filed.ensures c.sheet_on.ensures) _
    c.in_err-filed.was
    ∙ sym (open_lines o a.d a.x c.requires.0 c.requires.1 c.if-o-ne1.false)

pub overflow_shl-n : goal.overflow_shl-n
overflow_shl-n c =
    let a = c.args in
    few a.o.now a.d a.x _ _ c.filed.ensures c.sheet_on.ensures (said_ok _ _ c.in_ok-filed.was)

pub returns-then-n-x : goal.returns-then-n-x
returns-then-n-x c =
    let a = c.args in
    let o = a.o.now in
    let e = (said_ok _ _ c.in_ok-filed.was) in
    let less = few o a.d a.x _ _ c.filed.ensures c.sheet_on.ensures e in
    let far : 2 ^ inputs_on o ≤ a.x = omega (arith, c.if-n-x.true, shl_one 64 (inputs_on o) less) in
    decided (ls o a.d a.x) (ms o a.d a.x) _ (seen o a.d a.x _ _ c.filed.ensures c.sheet_on.ensures) e
    (here (le-leb (2 ^ inputs_on o) a.x far))
    ∙ sym (open_lines o a.d a.x c.requires.0 c.requires.1 c.if-o-ne1.false)

pub returns : goal.returns
returns c =
    let a = c.args in
    let o = a.o.now in
    let e = (said_ok _ _ c.in_ok-filed.was) in
    let less = few o a.d a.x _ _ c.filed.ensures c.sheet_on.ensures e in
    let near : a.x < 2 ^ inputs_on o = omega (arith, c.if-n-x.false, shl_one 64 (inputs_on o) less) in
    decided (ls o a.d a.x) (ms o a.d a.x) _ (seen o a.d a.x _ _ c.filed.ensures c.sheet_on.ensures) e
    (later (lt-leb (2 ^ inputs_on o) a.x near) fine)
    ∙ sym (open_lines o a.d a.x c.requires.0 c.requires.1 c.if-o-ne1.false)

pub overflow_cast-n : goal.overflow_cast-n
overflow_cast-n c = omega (arith, c.type_inv.o 241)
