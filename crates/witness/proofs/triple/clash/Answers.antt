-- The law of corners, at the six changes. Assumes nothing.
use lib.Bits.{or_lt}
use Rattle.tables.specs.Table.{table_bit}
use Rattle.witness.proofs.Corners.{corners_rule}
use Rattle.witness.proofs.triple.clash.Goals as goal

pub change-ar-requires : goal.change-ar-requires
change-ar-requires c =
    (c.requires.0, c.requires.1, or_lt c.args.n c.args.p c.args.q c.requires.3 c.requires.4)

pub change-bp-requires : goal.change-bp-requires
change-bp-requires c =
    (c.requires.0, or_lt c.args.n c.args.x c.args.d c.requires.1 c.requires.2, c.requires.3)

pub change-bq-requires : goal.change-bq-requires
change-bq-requires c =
    (c.requires.0, or_lt c.args.n c.args.x c.args.d c.requires.1 c.requires.2, c.requires.4)

pub change-br-requires : goal.change-br-requires
change-br-requires c = (
  c.requires.0,
  or_lt c.args.n c.args.x c.args.d c.requires.1 c.requires.2,
  or_lt c.args.n c.args.p c.args.q c.requires.3 c.requires.4,
)

pub returns : goal.returns
returns c k w =
    let a = c.args in
    corners_rule a.x a.d a.p a.q k c.requires.0.least c.requires.1 c.requires.2 c.requires.3 c.requires.4 w
    (table_bit a.t.now) _ _ _ _ _ _
    c.change-ap.ensures c.change-aq.ensures
    c.change-ar.ensures
    c.change-bp.ensures c.change-bq.ensures c.change-br.ensures
