-- `plain` meets its contract. Assumes nothing.
use mathlib.Core.Path.{ap, ◌∙◌}
use native.Mathlib.Omega.{arith}
use Rattle.std.specs.Option.{is_some}
use Rattle.printing.proofs.Cells.{plain-one, plain-two, plain_other}
use Rattle.printing.proofs.Forms.{form_some}
use Rattle.printing.proofs.pairs.plain.Goals as goal

pub returns-in-1 : goal.returns-in-1
returns-in-1 c = plain-one _ _ c.in-1.is

pub returns-in-2 : goal.returns-in-2
returns-in-2 c =
    c.is_some.ensures ∙ ap is_some c.form_of.ensures ∙ form_some _ ∙ plain-two _ _ c.in-2.is

pub returns-in_default : goal.returns-in_default
returns-in_default c = plain_other _ _ (λ e. omega arith) (λ e. omega arith)
