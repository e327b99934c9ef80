-- Find the best split with 1, 2 or 3 first cells: how many, and two masks.
use Rattle.std.specs.Prelude.{Bool, true, false, List, [], ◌∷◌, ◌++◌, ℕ, Result, Ok, Err}
use Rattle.tables.specs.Table.{table_bit}
use Rattle.splits.specs.Columns.{most_first}
use Rattle.sheets.specs.declared.kinds.Edition.{Edition}
use Rattle.choices.specs.declared.over.Chosen.{Chosen}
use Rattle.refusals.specs.Verdicts.{Refusal, Verdict, Fine, Refused}
use Rattle.refusals.specs.declared.verdicts.Refusal.{Refusal as Why}
use Rattle.refusals.specs.Results.{refusal_of}
use Rattle.refusals.specs.Lines.{Line, line, verdict, reply}
use Rattle.refusals.specs.Refusals.{nothing_to_split}
use Rattle.refusals.specs.Lent.{work_after}
use Rattle.finding.specs.FindBest.{find_form}
use Rattle.choices.specs.Search.{Choice, nothing, choice, best_over}

-- the best split of a gate's table with 1 to 3 first cells
abbrev pub best_several : ℕ → ℕ → List ℕ → Choice
best_several n K t = best_over n (table_bit t) K most_first

-- whether there is none
abbrev pub is_nothing : Choice → Bool
is_nothing nothing = true
is_nothing (choice r A B) = false

-- 8: none is possible with 1, 2 or 3 first cells
abbrev pub none_several : Choice → Line
none_several c = line 8 (is_nothing c)

-- what the table says: 7 and 8
abbrev pub several_says : ℕ → ℕ → List ℕ → List Line
several_says n K t = nothing_to_split n K t ∷ none_several (best_several n K t) ∷ []

-- all lines: find's form and room, and these
abbrev pub several_lines : Edition → ℕ → ℕ → List ℕ → List ℕ → List Line
several_lines e n K t work = find_form e n K t work ++ several_says n K t

-- the verdict, how many first cells, the own and the shared mask
pub record FindSeveralAnswer : Type 0 where
  pub verdict : Verdict
  pub first : ℕ
  pub own : ℕ
  pub shared : ℕ

-- the answer, and the work area afterwards
pub record FindSeveralOutcome : Type 0 where
  pub answer : FindSeveralAnswer
  pub work : List ℕ

-- how many first cells a choice has
abbrev pub first_of : Choice → ℕ
first_of nothing = 0
first_of (choice r A B) = r

-- its own mask
abbrev pub own_of : Choice → ℕ
own_of nothing = 0
own_of (choice r A B) = A

-- and its shared mask
abbrev pub shared_of : Choice → ℕ
shared_of nothing = 0
shared_of (choice r A B) = B

-- done: how many first cells, and the masks
abbrev pub several_done : Choice → List ℕ → FindSeveralOutcome
several_done c work = record {
  answer = record { verdict = Fine; first = first_of c; own = own_of c; shared = shared_of c };
  work = work_after Fine work;
}

-- refused: all three are 0
abbrev pub several_not : List ℕ → Refusal → FindSeveralOutcome
several_not work why = record {
  answer = record { verdict = Refused why; first = 0; own = 0; shared = 0 };
  work = work_after (Refused why) work;
}

-- what a result says
abbrev pub several_answer : Result Chosen Why → FindSeveralAnswer
several_answer (Ok found) = record { verdict = Fine; first = found.first; own = found.own; shared = found.shared }
several_answer (Err why) = record { verdict = Refused (refusal_of why); first = 0; own = 0; shared = 0 }

-- what find is to return and leave, whatever is handed over
unfoldable pub find_several_outcome : Edition → ℕ → ℕ → List ℕ → List ℕ → FindSeveralOutcome
find_several_outcome e n K t work =
    reply (verdict (several_lines e n K t work)) (several_done (best_several n K t) work) (several_not work)
