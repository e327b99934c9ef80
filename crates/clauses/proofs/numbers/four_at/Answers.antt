-- `four_at` meets its contract: four bytes make a number. Assumes nothing.
use native.Mathlib.Omega.{arith}
use Rattle.clauses.specs.Step.{four}
use Rattle.clauses.proofs.numbers.four_at.Goals as goal

pub returns : goal.returns
unfolding four
returns c = (omega arith, omega arith)
