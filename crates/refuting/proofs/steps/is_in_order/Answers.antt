-- `is_in_order` meets its contract: by the kind. Assumes nothing.
use native.Mathlib.Omega.{arith}
use Rattle.refuting.proofs.Lengths.{derived_length}
use Rattle.refuting.proofs.steps.is_in_order.Goals as goal

pub derived_in_order-requires : goal.derived_in_order-requires
derived_in_order-requires c =
    (omega (arith, derived_length c.args.task.now.certificate.now c.args.at c.if-task-at-eq0.true, c.requires.0.there), c.requires.1)
