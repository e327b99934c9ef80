-- `header_in_order` meets its contract, test by test. Assumes nothing.
use mathlib.Core.Path.{ap, ◌∙◌}
use Prim.Native.Nat.{ℕ, ◌^◌}
use native.Mathlib.Omega.{arith}
use lib.Dec.{ltb}
use Rattle.bits.specs.Below.{every}
use Rattle.clauses.specs.Step.{row_at}
use Rattle.refuting.proofs.Rows.{no_rows, many_rows, cut_rows, by_rows}
use borrow.Author.Tests.{lt-leb}
use Rattle.refuting.proofs.header.header_in_order.Goals as goal

pub returns-then-many-lt2 : goal.returns-then-many-lt2
returns-then-many-lt2 c = cut_rows c.args.n c.args.c.now (omega arith)

pub returns-in_default : goal.returns-in_default
returns-in_default c = no_rows c.args.n c.args.c.now (omega (arith, c.two_at-rows.ensures.0))

pub returns-in_default-2 : goal.returns-in_default-2
returns-in_default-2 c =
    many_rows c.args.n c.args.c.now (omega (arith, c.two_at-rows.ensures.0))

pub returns-else-rows-many : goal.returns-else-rows-many
returns-else-rows-many c = lt-leb _ _ c.if-rows-many.false ∙ cut_rows c.args.n c.args.c.now (omega (arith, c.two_at-rows.ensures.0))

pub returns-then-rows-many : goal.returns-then-rows-many
returns-then-rows-many c =
    c.rows_below.ensures ∙ ap (λ (i : ℕ). every i (λ a. ltb (row_at c.args.c.now a) (2 ^ c.args.n))) c.two_at-rows.ensures.0 ∙ by_rows c.args.n c.args.c.now (omega (arith, c.two_at-rows.ensures.0)) (omega (arith, c.two_at-rows.ensures.0)) (omega (arith, c.two_at-rows.ensures.0))
