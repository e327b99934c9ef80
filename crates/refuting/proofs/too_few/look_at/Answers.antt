-- `look_at` meets its contract: a header that isn't in order, a work area that is too short, or what the steps come to. Assumes nothing.
use mathlib.Core.Path.{sym, ◌∙◌}
use native.Mathlib.Omega.{arith}
use Rattle.refuting.proofs.Rows.{rows_there}
use Rattle.refuting.proofs.Answering.{Within, is_size, has_rows}
use Rattle.refuting.proofs.too_few.look_at.Goals as goal

pub two_at-requires : goal.two_at-requires
two_at-requires c =
    omega (arith, rows_there c.args.n c.args.c.now (sym c.header_in_order.ensures ∙ c.if-not-header_in_order.false))

pub invariant_of-task : goal.invariant_of-task
invariant_of-task c =
    let order = sym c.header_in_order.ensures ∙ c.if-not-header_in_order.false in
    let within : Within c.args.n c.args.k c.args.m c.args.t.now = record { inputs = c.requires.0; cell = c.requires.1; some = c.requires.2; most = c.requires.3; long = c.requires.4 } in
    record { sized = is_size c.args.n c.args.k c.args.m c.two_at.result c.args.t.now c.args.c.now within c.two_at.ensures.0 order; rows = has_rows c.args.n c.args.k c.args.m c.two_at.result c.args.t.now c.args.c.now within c.two_at.ensures.0 order; whole = c.requires.4 }
