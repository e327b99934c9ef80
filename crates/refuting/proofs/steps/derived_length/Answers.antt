-- `derived_length` meets its contract: as far as the bytes go. Assumes nothing.
use mathlib.Core.Path.{◌≡◌, ap, ◌∙◌}
use Prim.Native.Nat.{ℕ, ◌+◌, ◌*◌}
use native.Mathlib.Omega.{arith}
use Rattle.clauses.specs.Step.{four, step_length}
use Rattle.refuting.proofs.Lengths.{derived_length, is_there_lem, too_long_lem, there_some, there_none}
use Rattle.refuting.proofs.steps.derived_length.Goals as goal

pub returns-then-left-lt7 : goal.returns-then-left-lt7
returns-then-left-lt7 c =
    there_none c.args.c.now c.args.at (too_long_lem c.args.c.now c.args.at (omega (arith, derived_length c.args.c.now c.args.at c.requires.1)))

pub returns-then-left-literals : goal.returns-then-left-literals
returns-then-left-literals c =
    there_none c.args.c.now c.args.at (too_long_lem c.args.c.now c.args.at (omega (arith, derived_length c.args.c.now c.args.at c.requires.1, c.two_at-literals.ensures.0)))

pub returns-then-left-many : goal.returns-then-left-many
returns-then-left-many c =
    let h = (c.four_at.ensures.0 ∙ ap (λ (i : ℕ). four c.args.c.now (c.args.at + 3 + 4 * i)) c.two_at-literals.ensures.0) in there_none c.args.c.now c.args.at (too_long_lem c.args.c.now c.args.at (omega (arith, derived_length c.args.c.now c.args.at c.requires.1, c.two_at-literals.ensures.0, h)))

pub returns-else-left-many : goal.returns-else-left-many
returns-else-left-many c =
    let h = (c.four_at.ensures.0 ∙ ap (λ (i : ℕ). four c.args.c.now (c.args.at + 3 + 4 * i)) c.two_at-literals.ensures.0) in let e : 7 + 4 * c.two_at-literals.result + 4 * c.four_at.result ≡ step_length c.args.c.now c.args.at = omega (arith, derived_length c.args.c.now c.args.at c.requires.1, c.two_at-literals.ensures.0, h) in there_some c.args.c.now c.args.at e (is_there_lem c.args.c.now c.args.at (omega (arith, e)) (omega (arith, e)))
