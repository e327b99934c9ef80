-- `length_there` meets its contract: by the kind. Assumes nothing.
use mathlib.Core.Path.{◌≡◌, sym, ◌∙◌}
use native.Mathlib.Omega.{arith}
use Rattle.clauses.specs.Step.{kind_at, length_of}
use Rattle.clauses.proofs.Lengths.{is_none, is_some, not_zero}
use Rattle.refuting.proofs.Lengths.{given-length, is_there_lem, too_long_lem, no_kind, there_none, there_some}
use Rattle.refuting.proofs.steps.length_there.Goals as goal

pub returns-in_err-many : goal.returns-in_err-many
returns-in_err-many c =
    c.from_residual.ensures ∙ there_none c.args.c.now c.args.at (no_kind c.args.c.now c.args.at (sym (given-length c.args.c.now c.args.at c.if-kind-eq0.false) ∙ is_none _ c.in_err-many.ensures))

pub returns-then-c-at : goal.returns-then-c-at
returns-then-c-at c =
    let e = is_some _ c.in_ok-many.ensures ∙ given-length c.args.c.now c.args.at c.if-kind-eq0.false in there_none c.args.c.now c.args.at (too_long_lem c.args.c.now c.args.at (omega (arith, e)))

pub returns-else-c-at : goal.returns-else-c-at
returns-else-c-at c =
    let e = is_some _ c.in_ok-many.ensures ∙ given-length c.args.c.now c.args.at c.if-kind-eq0.false in let n = given-length c.args.c.now c.args.at c.if-kind-eq0.false in let z : length_of 0 (kind_at c.args.c.now c.args.at) ≡ 0 → ⊥ = not_zero _ c.in_ok-many.ensures in there_some c.args.c.now c.args.at e (is_there_lem c.args.c.now c.args.at (omega (arith, n, z)) (omega (arith, e)))
