-- `write_record` meets its contract. The loop's invariant: the bytes passed are the record's. Assumes nothing.
use mathlib.Core.Path.{ap, ◌∙◌}
use Prim.Native.Nat.{ℕ}
use native.Mathlib.Omega.{arith}
use Rattle.bits.specs.Lists.{list_of}
use Rattle.sheets.specs.Writing.{record_byte, encode}
use Rattle.sheets.specs.Held.{network_cell}
use Rattle.bits.proofs.Filling.{filled_none, filled_more, filled_whole}
use Rattle.sheets.proofs.writing.write_record.Goals as goal

pub returns : goal.returns
unfolding encode
returns c =
    let a = c.args in
    filled_whole c.loop-j.invariant (omega arith) (omega arith)
    ∙ ap (λ (k : ℕ). list_of k (record_byte a.e a.d (network_cell a.c))) c.requires.2

pub loop-j-preserved : goal.loop-j-preserved
loop-j-preserved c = filled_more c.loop-j.invariant (omega arith) (omega arith) c.record_byte.ensures
