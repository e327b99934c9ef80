-- `reads_in` meets its contract. The loop's invariant: what is counted, and what the records from i on read, make all.
-- Assumes nothing.
use mathlib.Core.Path.{ap, ◌∙◌}
use native.Mathlib.Omega.{arith}
use lib.ListN.{length}
use Rattle.sheets.specs.Network.{Cell}
use Rattle.sheets.specs.Reading.{times, reads}
use Rattle.sheets.proofs.Places.{record_within}
use Rattle.printing.proofs.Cells.{cells_all, cells_next, cells_end, plain_record}
use Rattle.printing.proofs.printed.reads_in.Goals as goal

pub loop-i-init : goal.loop-i-init
loop-i-init c =
    let a = c.args in
    (omega (arith, ap (reads a.x) (cells_all a.e a.s.now a.m)), omega arith)

pub pair_of-requires : goal.pair_of-requires
pair_of-requires c =
    let a = c.args in
    let i = c.loop-i.i in (
      c.requires.0,
      omega (arith, c.requires.1),
      record_within a.e.size i a.m (length a.s.now) (omega arith) c.requires.2,
      plain_record a.e a.s.now a.m c.requires.3 i (omega arith),
    )

pub overflow_add-c : goal.overflow_add-c
overflow_add-c c = omega (arith, c.loop-i.invariant.1, c.times-c.ensures.1, c.requires.1)

pub loop-i-preserved : goal.loop-i-preserved
loop-i-preserved c =
    let a = c.args in
    let i = c.loop-i.i in
    let r = c.times-c.ensures.0 ∙ ap (λ (k : Cell). times a.x k.signals) c.pair_of.ensures.0 in (
      omega (arith, c.loop-i.invariant.0, r, ap (reads a.x) (cells_next a.e a.s.now i a.m (omega arith))),
      omega (arith, c.loop-i.invariant.1, c.times-c.ensures.1),
    )

pub returns : goal.returns
returns c =
    let a = c.args in
    omega (arith, c.loop-i.invariant.0, ap (reads a.x) (cells_end a.e a.s.now c.loop-i.i a.m (omega arith)))
