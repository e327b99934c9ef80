use lib.ListN.{length}
use Rattle.sheets.specs.Writing.{record_byte}
use Rattle.sheets.specs.Held.{network_cell}
use Rattle.bits.proofs.Filling.{Filled}
use Rattle.sheets.proofs.writing.write_record.Given as goal

abbrev pub invariant-loop-j : goal.invariant-loop-j
invariant-loop-j l =
    Filled 0 (length l.initial.part) (record_byte l.e l.d (network_cell l.c)) l.initial.part l.part l.j
