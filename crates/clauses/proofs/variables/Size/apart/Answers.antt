-- `apart` meets its contract: the number stays small as it is computed. Assumes nothing.
use native.Mathlib.Omega.{arith}
use Rattle.clauses.proofs.Sizes.{from, apart_small}
use Rattle.clauses.proofs.variables.Size.apart.Goals as goal

pub overflow_add-result-4 : goal.overflow_add-result-4
overflow_add-result-4 c =
    omega (arith, apart_small c.args.self c.requires.0 c.args.i c.args.j c.args.a c.args.b c.requires.1, from c.args.self c.requires.0)
