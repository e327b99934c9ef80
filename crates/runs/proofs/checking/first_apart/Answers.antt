-- The lowest bit of the exclusive or. Assumes nothing.
use Rattle.std.proofs.Common.{arith}
use Rattle.runs.proofs.Differences.{lowest_apart}
use Rattle.runs.proofs.checking.first_apart.Goals as goal

pub returns : goal.returns
returns c = lowest_apart c.args.a c.args.b (omega arith) (omega arith) c.requires
