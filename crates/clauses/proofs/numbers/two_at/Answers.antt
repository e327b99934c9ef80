-- `two_at` meets its contract: two bytes make a number. Assumes nothing.
use native.Mathlib.Omega.{arith}
use Rattle.clauses.specs.Step.{two}
use Rattle.clauses.proofs.numbers.two_at.Goals as goal

pub returns : goal.returns
unfolding two
returns c = (omega arith, omega arith)
