-- `derived_in_order` meets its contract: the literals are named, the hints are earlier, it follows. Assumes nothing.
use mathlib.Core.Path.{sym, ◌∙◌}
use Prim.Native.Nat.{◌+◌}
use lib.ListN.{length}
use Rattle.clauses.specs.Variables.{variables}
use Rattle.following.proofs.Going.{kept_same}
use Rattle.following.proofs.Deriving.{not_named, not_earlier, by_following, literals_in_lem, all_usable}
use Rattle.following.proofs.following.derived_in_order.Goals as goal
use Rattle.following.proofs.following.derived_in_order.Goals.{then-are_named, else-are_named}

pub does_follow-requires : goal.does_follow-requires
does_follow-requires c = elim c.if-are_named.branch [
  | then-are_named w ↦ (c.requires.0, literals_in_lem c.args.task.now c.args.at c.two_at-literals.result c.four_at-hints.result c.all_variables-all.result c.all_variables-all.ensures.0 c.two_at-literals.ensures.0 c.four_at-hints.ensures.0 c.args.work.now c.requires.1 c.requires.0 c.are_named.ensures w.if-are_named.true, c.requires.1.clean, c.requires.1.room, all_usable c.args.task.now c.args.at c.two_at-literals.result c.four_at-hints.result c.all_variables-all.result c.all_variables-all.ensures.0 c.two_at-literals.ensures.0 c.four_at-hints.ensures.0 c.args.work.now c.requires.1 c.requires.0 w.are_earlier.ensures (sym w.value-is ∙ c.if-are_earlier.true))
  | else-are_named w ↦ cc
]

pub returns-then-are_earlier : goal.returns-then-are_earlier
returns-then-are_earlier c = elim c.if-are_named.branch [
  | then-are_named w ↦ (by_following c.args.task.now c.args.at c.two_at-literals.result c.four_at-hints.result c.all_variables-all.result c.all_variables-all.ensures.0 c.two_at-literals.ensures.0 c.four_at-hints.ensures.0 c.args.work.now c.requires.1 c.requires.0 c.are_named.ensures w.if-are_named.true w.are_earlier.ensures (sym w.value-is ∙ c.if-are_earlier.true) c.does_follow.ensures.0, c.does_follow.ensures.1, c.does_follow.ensures.2)
  | else-are_named w ↦ cc
]

pub returns-else-are_earlier : goal.returns-else-are_earlier
returns-else-are_earlier c = elim c.if-are_named.branch [
  | then-are_named w ↦ (c.if-are_earlier.false ∙ not_earlier c.args.task.now c.args.at c.two_at-literals.result c.four_at-hints.result c.all_variables-all.result c.all_variables-all.ensures.0 c.two_at-literals.ensures.0 c.four_at-hints.ensures.0 c.args.work.now c.requires.1 c.requires.0 c.are_named.ensures w.if-are_named.true w.are_earlier.ensures (sym w.value-is ∙ c.if-are_earlier.false), c.requires.1.clean, kept_same (variables c.args.task.now.size) (variables c.args.task.now.size + length c.args.task.now.certificate.now) c.args.work.now)
  | else-are_named w ↦ (c.if-are_earlier.false ∙ not_named c.args.task.now c.args.at c.two_at-literals.result c.four_at-hints.result c.all_variables-all.result c.all_variables-all.ensures.0 c.two_at-literals.ensures.0 c.four_at-hints.ensures.0 c.args.work.now c.requires.1 c.requires.0 c.are_named.ensures w.if-are_named.false, c.requires.1.clean, kept_same (variables c.args.task.now.size) (variables c.args.task.now.size + length c.args.task.now.certificate.now) c.args.work.now)
]
