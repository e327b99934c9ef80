-- `cell_of` meets its contract: the signals and the table are the record's. Assumes nothing.
use native.Mathlib.Omega.{arith}
use lib.Pow.{pow_mono}
use Rattle.sheets.specs.Record.{byte_at}
use Rattle.sheets.proofs.Places.{table-bits}
use Rattle.runs.proofs.Runs.{part_length}
use Rattle.rewriting.proofs.Holding.{held_cell}
use Rattle.rewriting.proofs.cells.cell_of.Goals as goal

pub first_of-requires : goal.first_of-requires
first_of-requires c =
    let e = c.args.e in
    let b = c.args.b.now in
    let r = c.requires in
    let few = r.readable.few in (
      omega (arith, few, r.sound.eight),
      omega (
        arith,
        pow_mono {i = byte_at b 0} {j = e.most} few,
        table-bits e
            r.sound,
        part_length e b,
        r.long,
      ),
    )

pub returns : goal.returns
returns c =
    let a = c.args in (
      c.requires.readable.few,
      held_cell a.e a.b.now c.requires c.signals_of.result
          c.first_of.result c.signals_of.ensures c.first_of.ensures,
    )
