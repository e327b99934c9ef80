-- By the two counts. Assumes nothing.
use mathlib.Core.Path.{subst}
use native.Mathlib.Omega.{arith}
use Rattle.selectors.proofs.Choosing.{tells_first, tells_longer, tells_stuck}
use Rattle.making.specs.Chaining.{Tells}
use Rattle.selectors.proofs.several.fewer.Goals as goal

pub returns-then-end-other : goal.returns-then-end-other
returns-then-end-other c x cs w =
    tells_first c.args.other c.in-Some.end (omega (arith, c.if-end-other.true)) x cs
    (subst (λ r. Tells r x) c.in-Some.is w)

pub returns-else-end-other : goal.returns-else-end-other
returns-else-end-other c x cs w =
    tells_longer c.args.other c.in-Some.end (omega (arith, c.if-end-other.false)) x cs
    (subst (λ r. Tells r x) c.in-Some.is w)

pub returns-in_default : goal.returns-in_default
returns-in_default c x cs w = tells_stuck c.args.other x cs (subst (λ r. Tells r x) c.in_default.is w)
