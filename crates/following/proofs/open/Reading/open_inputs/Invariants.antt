use mathlib.Core.Path.{◌≡◌}
use mathlib.Core.List.{map}
use Rattle.bits.specs.Lists.{byte_at}
use Rattle.clauses.specs.declared.variables.Variable.TheVariants.{Reads}
use Rattle.clauses.specs.declared.variables.Literal.TheVariants.{Said}
use Rattle.clauses.specs.Variables.{literal_of}
use Rattle.following.specs.Values.{open_after}
use Rattle.clauses.specs.Clause.{those, rows_differ}
use Rattle.clauses.specs.Step.{row_at}
use Rattle.following.proofs.open.Reading.open_inputs.Given as goal

abbrev pub invariant-loop-p : goal.invariant-loop-p
invariant-loop-p l =
    l.o ≡ open_after (byte_at l.self.values.now) l.initial.o (map (literal_of l.self.task.size) (those l.p (rows_differ (row_at l.self.task.certificate.now) l.a l.b) (λ k. Said (Reads l.i k))))
