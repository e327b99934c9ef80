-- `floor` meets its contract: sizes are counts of ones. Assumes nothing.
use Rattle.std.proofs.Common.{Option, arith, subst}
use Rattle.bits.specs.Numbers.{bit}
use Rattle.bits.proofs.Sizes.{size-le}
use Rattle.choices.specs.declared.over.Chosen.{Chosen}
use Rattle.choices.specs.Chosen.{choice_of, OwnBelow}
use Rattle.choices.proofs.over.floor.Goals as goal

pub overflow_add-result : goal.overflow_add-result
overflow_add-result c =
    let a = c.args in
    let below = subst (λ (k : Option Chosen). OwnBelow a.n (choice_of k)) c.in-Some.is c.requires.3 in
    omega (arith, c.members.ensures a.n below, size-le a.n (bit c.in-Some.best.own), c.requires.0, c.requires.1)
