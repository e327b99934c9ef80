-- Ask for a lower bound on the cells of a table: one number. Beside the told edition its lines are find's form and
-- room; nothing that the table says is refused.
use Rattle.std.specs.Prelude.{List, ℕ, Result, Ok, Err}
use Rattle.tables.specs.Table.{table_bit}
use Rattle.sheets.specs.declared.kinds.Edition.{Edition}
use Rattle.sheets.specs.Edition.{edition_of}
use Rattle.refusals.specs.Verdicts.{Refusal, Verdict, Fine, Refused}
use Rattle.refusals.specs.declared.verdicts.Refusal.{Refusal as Why}
use Rattle.refusals.specs.Results.{refusal_of}
use Rattle.refusals.specs.Lines.{Line, verdict, reply}
use Rattle.refusals.specs.Refusals.{told_lines}
use Rattle.refusals.specs.Lent.{work_after}
use Rattle.finding.specs.FindBest.{find_form}
use Rattle.bounds.specs.Least.{cell_bound}

-- the verdict, and the bound
pub record BoundAnswer : Type 0 where
  pub verdict : Verdict
  pub least : ℕ

-- the answer, and the work area afterwards
pub record BoundOutcome : Type 0 where
  pub answer : BoundAnswer
  pub work : List ℕ

-- done: the bound
abbrev pub bound_done : ℕ → ℕ → List ℕ → List ℕ → BoundOutcome
bound_done n K t work = record {
  answer = record { verdict = Fine; least = cell_bound n K (table_bit t) };
  work = work_after Fine work;
}

-- refused: 0
abbrev pub bound_not : List ℕ → Refusal → BoundOutcome
bound_not work r = record { answer = record { verdict = Refused r; least = 0 }; work = work_after (Refused r) work }

-- in the edition e, by find's form and room: 1 to 4, and 6 of the work area
abbrev pub bound_in : Edition → ℕ → ℕ → List ℕ → List ℕ → BoundOutcome
bound_in e n K t work = reply (verdict (find_form e n K t work)) (bound_done n K t work) (bound_not work)

-- the lines of the call: 1, 2 of the edition with the number w, and those
abbrev pub bound_lines : ℕ → ℕ → ℕ → List ℕ → List ℕ → List Line
bound_lines w n K t work = told_lines w n (find_form (edition_of w) n K t work)

-- what a result says
abbrev pub bound_answer : Result ℕ Why → BoundAnswer
bound_answer (Ok least) = record { verdict = Fine; least = least }
bound_answer (Err why) = record { verdict = Refused (refusal_of why); least = 0 }

-- what is to be returned and left, whatever is handed over
unfoldable pub bound_outcome : ℕ → ℕ → ℕ → List ℕ → List ℕ → BoundOutcome
bound_outcome w n K t work = reply (verdict (bound_lines w n K t work)) (bound_done n K t work) (bound_not work)
