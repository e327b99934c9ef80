-- `(t[x / 8] >> (x % 8)) & 1` is the table's bit. Assumes nothing.
use Rattle.bits.proofs.Machine.{test_bit}
use Rattle.tables.proofs.bit_at.Goals as goal

pub returns : goal.returns
returns c = simp test_bit
