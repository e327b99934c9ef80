-- `load_part` meets its contract: a refusal touches nothing, and where the lines are in order the stores are made.
-- Assumes nothing.
use mathlib.Core.Path.{◌≡◌, sym, ap, ◌∙◌}
use mathlib.Core.List.{List}
use Prim.Native.Nat.{ℕ, ◌-◌}
use native.Mathlib.Omega.{arith}
use lib.ListN.{take, drop}
use Rattle.tables.specs.Table.{most_inputs}
use Rattle.refusals.specs.Verdicts.{Verdict, Fine}
use Rattle.refusals.specs.Lines.{verdict, reply}
use Rattle.refusals.proofs.Lines.{in_order_lem}
use Rattle.refusals.proofs.Tests.{inside}
use Rattle.cards.specs.declared.stores.Store.{Store}
use Rattle.cards.specs.Stores.{load_stores}
use Rattle.cards.specs.LoadDesk.{load_lines, load_done, load_not, part_outcome}
use Rattle.cards.proofs.Desks.{Accepted, accepts}
use Rattle.refusals.proofs.Results.{said_ok, handed_on, replied}
use Rattle.loads.proofs.loading.load_part.Goals as goal

module _ (card : List ℕ) (d n : ℕ) (s : List ℕ) where
  -- the stores that are asked for
  part : ℕ → ℕ → List Store
  part first end = take (end - first) (drop first (load_stores d n s))

  -- where the lines are in order
  okay : {v : Verdict} → v ≡ verdict (load_lines card d n s) → v ≡ Fine → Accepted card d n s
  okay q e = accepts card d n s (in_order_lem (load_lines card d n s) (sym q ∙ e))

pub returns-in_err-load_form : goal.returns-in_err-load_form
unfolding part_outcome part
returns-in_err-load_form c =
    let a = c.args in
    ap (λ (v : Verdict). record { verdict = v; card = a.card.now }) (handed_on _ _ c.from_residual.ensures.1)
    ∙ replied (load_lines a.card.now a.d a.n a.s.now) _ c.load_form.ensures _
    (load_done (part a.card.now a.d a.n a.s.now a.first a.end) a.card.now) (load_not a.card.now) c.in_err-load_form.was

pub overflow_cast-n : goal.overflow_cast-n
overflow_cast-n c =
    let a = c.args in
    let w = okay a.card.now a.d a.n a.s.now c.load_form.ensures (said_ok _ _ c.in_ok-load_form.was) in
    omega (arith, inside 1 a.n most_inputs w.filed.0)

pub make_stores-requires : goal.make_stores-requires
make_stores-requires c =
    let a = c.args in
    let w = okay a.card.now a.d a.n a.s.now c.load_form.ensures (said_ok _ _ c.in_ok-load_form.was) in
    (w.long, w.least, w.most, omega (arith, w.good.whole, w.good.most), c.requires.0, c.requires.1)

pub returns : goal.returns
unfolding part_outcome part
returns c =
    let a = c.args in
    ap (λ (t : List ℕ). record { verdict = Fine; card = t }) c.make_stores.ensures
    ∙ ap (λ (v : Verdict). reply v (load_done (part a.card.now a.d a.n a.s.now a.first a.end) a.card.now)
    (load_not a.card.now))
    (sym (said_ok _ _ c.in_ok-load_form.was) ∙ c.load_form.ensures)
