-- The second half's bytes leave the table at hand alone until they are taken back. Assumes nothing.
use mathlib.Core.Path.{ap, ◌∙◌}
use native.Mathlib.Omega.{arith}
use Rattle.tables.specs.Table.{table_length}
use Rattle.making.proofs.Halves.{taken_back}
use Rattle.tables.proofs.Work.{half-holds}
use Rattle.making.proofs.area.next_table.Goals as goal

pub store_next-requires : goal.store_next-requires
store_next-requires c = (
  omega (arith, c.length_for-len.ensures, half-holds c.args.m c.requires.1),
  c.requires.0,
  c.requires.3,
  c.requires.4,
)

pub take_next-requires : goal.take_next-requires
take_next-requires c = (
  omega (arith, c.length_for-len.ensures, half-holds c.args.m c.requires.1),
  omega
      (arith, c.store_next.ensures.long, c.requires.0),
)

pub shape_of-work : goal.shape_of-work
shape_of-work c =
    c.take_next.ensures.1
    ∙ c.store_next.ensures.long

pub returns : goal.returns
returns c =
    taken_back c.args.s c.args.r c.length_for-len.result c.args.work.now _ _
    (c.length_for-len.ensures ∙ ap table_length c.requires.2)
    (omega (arith, c.length_for-len.ensures, half-holds c.args.m c.requires.1)) c.store_next.ensures
    c.take_next.ensures.0
    c.take_next.ensures.1
