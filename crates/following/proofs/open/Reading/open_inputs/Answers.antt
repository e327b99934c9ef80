-- The loop keeps what is open among the inputs so far. Assumes nothing.
use mathlib.Core.Path.{refl, sym, ap, ◌∙◌}
use mathlib.Core.Bool.{not}
use borrow.Author.Tests.{eq-eqb, ne_eqb}
use Rattle.bits.specs.Lists.{byte_at}
use Rattle.clauses.specs.declared.variables.Variable.TheVariants.{Reads}
use Rattle.clauses.specs.declared.variables.Literal.TheVariants.{Said}
use Rattle.clauses.specs.Variables.{literal_of}
use Rattle.following.specs.Values.{open_after}
use Rattle.clauses.specs.Clause.{those, rows_differ}
use Rattle.clauses.specs.Step.{row_at}
use Rattle.following.proofs.Opening.{open_those, differ_is}
use Rattle.following.proofs.open.Reading.open_inputs.Goals as goal
use Rattle.following.proofs.open.Reading.open_inputs.Goals.{then-differ, else-differ}

pub loop-p-init : goal.loop-p-init
unfolding those open_after
loop-p-init c = refl

pub loop-p-preserved : goal.loop-p-preserved
loop-p-preserved c = elim c.if-differ.branch [
  | then-differ w ↦ open_those (byte_at c.args.self.now.values.now) (literal_of c.args.self.now.task.size) (λ p. Said (Reads c.args.i p)) c.args.start (rows_differ (row_at c.args.self.now.task.certificate.now) c.args.a c.args.b) c.loop-p.p (w.o-is ∙ w.see_named-o.ensures) (sym (ap not (ne_eqb _ _ w.if-differ.true)) ∙ differ_is c.row_at-x.result c.row_at-y.result c.loop-p.p c.row_at-x.ensures c.row_at-y.ensures) c.loop-p.invariant
  | else-differ w ↦ open_those (byte_at c.args.self.now.values.now) (literal_of c.args.self.now.task.size) (λ p. Said (Reads c.args.i p)) c.args.start (rows_differ (row_at c.args.self.now.task.certificate.now) c.args.a c.args.b) c.loop-p.p w.o-is (sym (ap not (eq-eqb _ _ w.if-differ.false)) ∙ differ_is c.row_at-x.result c.row_at-y.result c.loop-p.p c.row_at-x.ensures c.row_at-y.ensures) c.loop-p.invariant
]
