-- Find the best split: two masks.
use Rattle.std.specs.Prelude.{List, [], ◌∷◌, ◌++◌, ℕ, Result, Ok, Err}
use Rattle.tables.specs.Table.{table_bit}
use Rattle.best.specs.declared.Masks.{Masks}
use Rattle.best.specs.Search.{Answer, none, split}
use Rattle.best.specs.Counting.{best_counting}
use Rattle.sheets.specs.declared.kinds.Edition.{Edition}
use Rattle.refusals.specs.Verdicts.{Refusal, Verdict, Fine, Refused}
use Rattle.refusals.specs.declared.verdicts.Refusal.{Refusal as Why}
use Rattle.refusals.specs.Results.{refusal_of}
use Rattle.refusals.specs.Lines.{Line, verdict, reply}
use Rattle.refusals.specs.Refusals.{gate_lines, short_work, nothing_to_split, none_best}
use Rattle.refusals.specs.Lent.{work_after}

-- the best split of a gate's table, over the inputs that count
abbrev pub best_for : ℕ → ℕ → List ℕ → Answer
best_for n K t = best_counting n 1 (table_bit t) K

-- form and room: 1 to 4, and 6 of the work area
abbrev pub find_form : Edition → ℕ → ℕ → List ℕ → List ℕ → List Line
find_form e n K t work = gate_lines e n K t ++ (short_work work ∷ [])

-- what the table says: 7 and 8
abbrev pub find_says : ℕ → ℕ → List ℕ → List Line
find_says n K t = nothing_to_split n K t ∷ none_best (best_for n K t) ∷ []

-- all of them
abbrev pub find_lines : Edition → ℕ → ℕ → List ℕ → List ℕ → List Line
find_lines e n K t work = find_form e n K t work ++ find_says n K t

-- the verdict, the own and the shared mask
pub record FindAnswer : Type 0 where
  pub verdict : Verdict
  pub own : ℕ
  pub shared : ℕ

-- the answer, and the work area afterwards
pub record FindOutcome : Type 0 where
  pub answer : FindAnswer
  pub work : List ℕ

-- the own mask of an answer
abbrev pub own_of : Answer → ℕ
own_of none = 0
own_of (split A B) = A

-- and its shared mask
abbrev pub shared_of : Answer → ℕ
shared_of none = 0
shared_of (split A B) = B

-- done: the masks of the best split
abbrev pub find_done : Answer → List ℕ → FindOutcome
find_done a work = record {
  answer = record { verdict = Fine; own = own_of a; shared = shared_of a };
  work = work_after Fine work;
}

-- refused: both masks are 0
abbrev pub find_not : List ℕ → Refusal → FindOutcome
find_not work r = record {
  answer = record { verdict = Refused r; own = 0; shared = 0 };
  work = work_after (Refused r) work;
}

-- what a result says
abbrev pub find_answer : Result Masks Why → FindAnswer
find_answer (Ok masks) = record { verdict = Fine; own = masks.own; shared = masks.shared }
find_answer (Err why) = record { verdict = Refused (refusal_of why); own = 0; shared = 0 }

-- what find is to return and leave, whatever is handed over
unfoldable pub find_outcome : Edition → ℕ → ℕ → List ℕ → List ℕ → FindOutcome
find_outcome e n K t work = reply (verdict (find_lines e n K t work)) (find_done (best_for n K t) work) (find_not work)
