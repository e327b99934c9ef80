-- A table of six inputs or more has the word that is read. Assumes nothing.
use Rattle.std.proofs.Common.{arith, pow_mono}
use Rattle.tables.proofs.Pieces.{word_at}
use Rattle.witness.proofs.crowd.mark.Goals as goal

pub near-requires : goal.near-requires
near-requires c = (
  word_at c.args.n c.args.t.now c.args.x c.requires.1 c.requires.2,
  omega (arith, c.requires.1, pow_mono {i = 6} {j = c.args.n} c.if-n-ge6.true),
  c.if-e-lt64.true,
  c.if-f-lt64.true,
)
