-- `load_form` meets its contract: each return is the first line that holds, or that none does. Assumes nothing.
use mathlib.Core.Path.{sym, ap, ap₂, ◌∙◌}
use mathlib.Core.Bool.{Bool, not, ◌||◌}
use mathlib.Core.List.{[], ◌∷◌}
use native.Mathlib.Omega.{arith}
use lib.ListN.{length}
use borrow.Author.Tests.{eq-eqb, ne_eqb}
use Rattle.refusals.proofs.Lines.{here, later, decides, passes}
use Rattle.refusals.proofs.Tests.{inside}
use Rattle.cards.specs.Card.{desks, card_bytes}
use Rattle.cards.specs.Refusals.{bad_card, another_desk, bad_load, filed_lines}
use Rattle.cards.specs.LoadDesk.{load_lines}
use Rattle.loads.proofs.loading.load_form.Goals as goal

pub returns-then-card-ne-CARD : goal.returns-then-card-ne-CARD
returns-then-card-ne-CARD c =
    let a = c.args in
    decides (load_lines a.card.now a.d a.n a.s.now)
    (here (ap not (ne_eqb (length a.card.now) card_bytes c.if-card-ne-CARD.true)))

pub returns-then-outside : goal.returns-then-outside
returns-then-outside c =
    let a = c.args in
    decides (load_lines a.card.now a.d a.n a.s.now)
    (later (ap not (eq-eqb (length a.card.now) card_bytes c.if-card-ne-CARD.false))
    (here (ap (λ (t : Bool). t || another_desk a.d a.s.now) (sym c.outside.ensures ∙ c.if-outside.true))))

pub returns-then-another_desk : goal.returns-then-another_desk
returns-then-another_desk c =
    let a = c.args in
    decides (load_lines a.card.now a.d a.n a.s.now)
    (later (ap not (eq-eqb (length a.card.now) card_bytes c.if-card-ne-CARD.false))
    (here (ap₂ ◌||◌ (sym c.outside.ensures ∙ c.if-outside.false)
    (sym c.another_desk.ensures ∙ c.if-another_desk.true))))

pub overflow_cast-d : goal.overflow_cast-d
overflow_cast-d c =
    omega (
      arith,
      inside 1 c.args.d desks
          (sym c.outside.ensures ∙ c.if-outside.false),
    )

pub returns : goal.returns
returns c =
    let a = c.args in
    c.filed.ensures
    ∙ sym (passes (bad_card a.card.now ∷ bad_load a.d a.s.now ∷ []) (filed_lines a.d a.n a.s.now) (
      ap not (eq-eqb (length a.card.now) card_bytes c.if-card-ne-CARD.false),
      (
        ap₂ ◌||◌ (sym c.outside.ensures ∙ c.if-outside.false)
            (sym c.another_desk.ensures ∙ c.if-another_desk.false),
        tt,
      ),
    ))
