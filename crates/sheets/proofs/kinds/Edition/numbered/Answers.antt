-- `Edition::numbered` meets its contract. Assumes nothing.
use mathlib.Core.Path.{sym, ap, ◌∙◌}
use mathlib.Core.Bool.{Bool, cond}
use borrow.Author.Tests.{eq-eqb, ne_eqb}
use Rattle.sheets.specs.Edition.{first_edition, second_edition, last_edition, edition_of}
use Rattle.sheets.proofs.kinds.Edition.numbered.Goals as goal

pub returns-then-w-eq-LAST : goal.returns-then-w-eq-LAST
unfolding edition_of
returns-then-w-eq-LAST c =
    c.second.ensures ∙ ap (λ (t : Bool). cond t second_edition first_edition)
    (sym (eq-eqb c.args.w last_edition c.if-w-eq-LAST.true))

pub returns-else-w-eq-LAST : goal.returns-else-w-eq-LAST
unfolding edition_of
returns-else-w-eq-LAST c =
    c.first.ensures ∙ ap (λ (t : Bool). cond t second_edition first_edition)
    (sym (ne_eqb c.args.w last_edition c.if-w-eq-LAST.false))
