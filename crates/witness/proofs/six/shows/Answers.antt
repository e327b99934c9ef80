-- `witness::six::shows` meets its contract, by the law of six bits. Assumes nothing.
use Rattle.std.proofs.Common.{sym, ◌∙◌}
use borrow.Author.Tests.{not-true}
use Rattle.tables.specs.Table.{table_bit}
use Rattle.witness.proofs.Points.{six_rule}
use Rattle.witness.proofs.six.shows.Goals as goal
use Rattle.witness.proofs.six.shows.Goals.{then-placed, else-placed, then-not-alike, else-not-alike}

pub returns-then-not-alike-2 : goal.returns-then-not-alike-2
returns-then-not-alike-2 c e =
    let a = c.args in
    elim c.if-not-alike.branch [
      | else-not-alike v ↦ absurd (cc)
      | then-not-alike v ↦ elim c.if-placed.branch [
        | else-placed w ↦ absurd (cc)
        | then-placed w ↦ six_rule a.n (table_bit a.t.now) a.own a.w.x a.w.y a.w.z a.w.d
            (c.placed.ensures w.if-placed.true)
            (sym w.alike.ensures ∙ not-true _ (sym w.value-is ∙ v.if-not-alike.true))
            (sym v.alike-then-not-alike.ensures ∙ not-true _ (sym v.value-is ∙ c.if-not-alike-2.true))
            (sym c.alike-then-not-alike-2.ensures ∙ not-true _ e)
      ]
    ]
