-- `larger` meets its contract: sizes are counts of ones. Assumes nothing.
use Rattle.std.proofs.Common.{Option, arith, subst}
use Rattle.bits.specs.Numbers.{bit}
use Rattle.bits.proofs.Sizes.{size-le}
use Rattle.choices.specs.declared.over.Chosen.{Chosen}
use Rattle.choices.specs.Chosen.{choice_of, FewFirst, OwnBelow}
use Rattle.choices.proofs.over.larger.Goals as goal

pub overflow_add-members : goal.overflow_add-members
overflow_add-members c =
    let a = c.args in
    let below = subst (λ (k : Option Chosen). OwnBelow a.n (choice_of k)) c.in-Some.is c.requires.4 in
    omega (arith, c.members.ensures a.n below, size-le a.n (bit c.in-Some.best.own), c.requires.1, c.requires.2)

pub overflow_add-members-2 : goal.overflow_add-members-2
overflow_add-members-2 c =
    let a = c.args in
    let few = subst FewFirst c.in-Some.is c.requires.3 in
    omega (arith, c.members-2.ensures a.n c.requires.5, size-le a.n (bit a.own), c.requires.2, few)
