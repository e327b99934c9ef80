-- `witness::six::alike` meets its contract: the four bits that it reads are those of `same_column`. Assumes nothing.
use Rattle.std.proofs.Common.{arith}
use lib.Bits.{xor_lt}
use Rattle.witness.proofs.six.alike.Goals as goal

pub bit_at-requires-3 : goal.bit_at-requires-3
bit_at-requires-3 c =
    omega (arith, xor_lt c.args.n c.args.x c.args.d c.requires.2 c.requires.4, c.requires.1)

pub bit_at-requires-4 : goal.bit_at-requires-4
bit_at-requires-4 c =
    omega (arith, xor_lt c.args.n c.args.y c.args.d c.requires.3 c.requires.4, c.requires.1)
