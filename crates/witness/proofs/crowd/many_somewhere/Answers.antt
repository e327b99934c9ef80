-- What is shown from one place on is shown. Assumes nothing.
use Rattle.std.proofs.Common.{arith, pow_pos, rules}
use Rattle.bits.proofs.Machine.{shl_one}
use Rattle.witness.proofs.Points.{said_no}
use Rattle.witness.proofs.crowd.many_somewhere.Goals as goal

pub shows_many-requires : goal.shows_many-requires
shows_many-requires c = search rules

pub returns-then-shows_many : goal.returns-then-shows_many
returns-then-shows_many c e = c.shows_many.ensures c.if-shows_many.true

pub overflow_sub-base : goal.overflow_sub-base
overflow_sub-base c =
    omega (arith, shl_one 32 c.args.n (omega (arith, c.requires.0)), pow_pos c.args.n)

pub returns : goal.returns
returns c = said_no
