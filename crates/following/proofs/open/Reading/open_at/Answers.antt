-- `open_at` meets its contract: a clause of kind 0 is read off the certificate, another off its fields. Assumes nothing.
use mathlib.Core.Path.{sym, ap, subst, ◌∙◌}
use mathlib.Core.List.{List, map}
use Rattle.bits.specs.Lists.{byte_at}
use Rattle.tables.specs.Table.{table_bit}
use Rattle.clauses.specs.declared.variables.Literal.{Literal}
use Rattle.clauses.specs.Variables.{literal_of}
use Rattle.clauses.specs.Clause.{clause, in_order}
use Rattle.clauses.specs.Asking.{question_of}
use Rattle.clauses.specs.Shapes.{AllNamed}
use Rattle.clauses.proofs.Naming.{named}
use Rattle.following.specs.Values.{open_in}
use Rattle.following.proofs.Reading.{clause_derived, clause-given}
use Rattle.following.proofs.open.Reading.open_at.Goals as goal

pub open_shape-requires : goal.open_shape-requires
open_shape-requires c =
    subst (AllNamed c.args.self.now.task.size) (sym c.shape_of.ensures) (named (question_of c.args.self.now.task) c.args.self.now.task.sized c.given_at.result (ap (in_order c.args.self.now.task.size (table_bit c.args.self.now.task.table.now)) c.given_at.ensures ∙ c.requires.given c.if-c-at-eq0.false))

pub returns-then-c-at-eq0 : goal.returns-then-c-at-eq0
returns-then-c-at-eq0 c =
    c.open_derived.ensures ∙ sym (ap (open_in (byte_at c.args.self.now.values.now)) (clause_derived (question_of c.args.self.now.task) c.args.self.now.task.certificate.now c.args.at c.if-c-at-eq0.true))

pub returns-else-c-at-eq0 : goal.returns-else-c-at-eq0
returns-else-c-at-eq0 c =
    c.open_shape.ensures ∙ ap (λ (ls : List Literal). open_in (byte_at c.args.self.now.values.now) (map (literal_of c.args.self.now.task.size) ls)) (c.shape_of.ensures ∙ ap (clause (question_of c.args.self.now.task)) c.given_at.ensures) ∙ ap (open_in (byte_at c.args.self.now.values.now)) (sym (clause-given (question_of c.args.self.now.task) c.args.self.now.task.certificate.now c.args.at c.if-c-at-eq0.false))
