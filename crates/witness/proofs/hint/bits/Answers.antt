-- Safe: the mask keeps the assignment inside the table. Assumes nothing.
use Rattle.std.proofs.Common.{◌-◌, ◌*◌, ◌%◌, ◌^◌, arith, pow_pos}
use lib.Bits.{bit_and, and_le_r}
use Rattle.bits.proofs.Machine.{shl_one}
use Rattle.tables.proofs.Pieces.{word_at}
use Rattle.witness.proofs.hint.bits.Goals as goal

pub overflow_sub-all : goal.overflow_sub-all
overflow_sub-all c =
    omega (
      arith,
      shl_one 32 c.args.n (omega (arith, c.requires.0)),
      pow_pos
          c.args.n,
    )

pub bits_from-requires : goal.bits_from-requires
bits_from-requires c =
    word_at c.args.n c.args.t.now (bit_and c.args.x (1 * 2 ^ c.args.n % 4294967296 - 1)) c.requires.1
    (omega (
      arith,
      and_le_r c.args.x (1 * 2 ^ c.args.n % 4294967296 - 1),
      shl_one 32 c.args.n
          (omega (arith, c.requires.0)),
      pow_pos c.args.n,
    ))
