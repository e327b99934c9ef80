-- What is asked in a task, as the steps of its certificate have it.
use Rattle.std.specs.Prelude.{Bool, List, ℕ}
use Rattle.tables.specs.Table.{table_bit}
use Rattle.clauses.specs.declared.given.Given.{Given}
use Rattle.clauses.specs.declared.task.Task.{Task}
use Rattle.clauses.specs.Clause.{Question, in_order}
use Rattle.clauses.specs.Step.{question_in, clause_at}

-- its size, its table, and the assignment of each row
abbrev pub question_of : Task → Question
question_of x = question_in x.size x.table.now x.certificate.now

-- the clause of the step at a place
abbrev pub clause_of : Task → ℕ → List ℕ
clause_of x at = clause_at (question_of x) x.certificate.now at

-- a step of kinds 1 to 14 is in order
abbrev pub given_in_order : Task → Given → Bool
given_in_order x g = in_order x.size (table_bit x.table.now) g
