-- `does_follow` meets its contract: the literals, the hints, and then all is forgotten. Assumes nothing.
use native.Mathlib.Omega.{arith}
use Rattle.following.proofs.Deriving.{hints_are, both_go, in_front, follows_is, all_forgotten}
use Rattle.following.proofs.following.does_follow.Goals as goal

pub forget-requires : goal.forget-requires
forget-requires c =
    (omega (arith, c.all_variables-all.ensures.0, c.requires.0, c.requires.3, c.deny_all-denied.ensures.0, c.hint_all-r.ensures.0, c.deny_all-denied.auto.work, c.hint_all-r.auto.work, c.two_at-literals.ensures.0, hints_are c.args.task.now c.args.at c.two_at-literals.result c.four_at-hints.result c.all_variables-all.result c.all_variables-all.ensures.0 c.two_at-literals.ensures.0 c.four_at-hints.ensures.0), in_front c.args.task.now c.args.at c.two_at-literals.result c.four_at-hints.result c.all_variables-all.result c.all_variables-all.ensures.0 c.two_at-literals.ensures.0 c.four_at-hints.ensures.0 (both_go c.args.task.now c.args.at c.two_at-literals.result c.four_at-hints.result c.all_variables-all.result c.all_variables-all.ensures.0 c.two_at-literals.ensures.0 c.four_at-hints.ensures.0 c.deny_all-denied.ensures.1 c.hint_all-r.ensures.1))

pub returns : goal.returns
returns c =
    let w = all_forgotten c.args.task.now c.args.at c.two_at-literals.result c.four_at-hints.result c.all_variables-all.result c.all_variables-all.ensures.0 c.two_at-literals.ensures.0 c.four_at-hints.ensures.0 (both_go c.args.task.now c.args.at c.two_at-literals.result c.four_at-hints.result c.all_variables-all.result c.all_variables-all.ensures.0 c.two_at-literals.ensures.0 c.four_at-hints.ensures.0 c.deny_all-denied.ensures.1 c.hint_all-r.ensures.1) c.forget.ensures in (follows_is c.args.task.now c.args.at c.two_at-literals.result c.four_at-hints.result c.all_variables-all.result c.all_variables-all.ensures.0 c.two_at-literals.ensures.0 c.four_at-hints.ensures.0 (both_go c.args.task.now c.args.at c.two_at-literals.result c.four_at-hints.result c.all_variables-all.result c.all_variables-all.ensures.0 c.two_at-literals.ensures.0 c.four_at-hints.ensures.0 c.deny_all-denied.ensures.1 c.hint_all-r.ensures.1), w.0, w.1)
