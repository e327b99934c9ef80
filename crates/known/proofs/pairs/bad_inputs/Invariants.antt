use Rattle.best.specs.Moves.{both}
use Rattle.tables.specs.Table.{table_bit}
use Rattle.known.specs.Notes.{Needs}
use Rattle.known.proofs.pairs.bad_inputs.Given as goal

abbrev pub invariant-loop-c : goal.invariant-loop-c
invariant-loop-c l = Needs l.n (table_bit l.t) 2 (both l.i l.j) l.mask
