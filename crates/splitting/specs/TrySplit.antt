-- Try a named split with r first cells: their tables as numbers, H into a lent room. Document 01's call has one.
use Rattle.std.specs.Prelude.{cond, List, [], ◌∷◌, ◌++◌, ℕ, eqb, length, Result, Ok, Err}
use Rattle.bits.specs.Numbers.{bit}
use Rattle.tables.specs.Table.{table_bit}
use Rattle.splits.specs.Columns.{columns}
use Rattle.splits.specs.Pair.{bytes_h}
use Rattle.charts.specs.Cells.{first_cells, no_cells}
use Rattle.charts.specs.declared.pair.FirstCells.{FirstCells}
use Rattle.sheets.specs.declared.kinds.Edition.{Edition}
use Rattle.refusals.specs.Verdicts.{Refusal, Verdict, Fine, Refused}
use Rattle.refusals.specs.declared.verdicts.Refusal.{Refusal as Why}
use Rattle.refusals.specs.Results.{refusal_of, columns_of}
use Rattle.refusals.specs.Lines.{Line, verdict, reply}
use Rattle.refusals.specs.Refusals.{gate_lines, bad_sets, short_room, not_possible}
use Rattle.refusals.specs.Lent.{into}

-- form and room: 1 to 6
abbrev pub try_form : Edition → ℕ → ℕ → ℕ → ℕ → ℕ → List ℕ → List ℕ → List Line
try_form e n K r A B t room = gate_lines e n K t ++ (bad_sets n K r A B ∷ short_room n r A B t room ∷ [])

-- and 8
abbrev pub try_lines : Edition → ℕ → ℕ → ℕ → ℕ → ℕ → List ℕ → List ℕ → List Line
try_lines e n K r A B t room = try_form e n K r A B t room ++ (not_possible n r A B t ∷ [])

-- the verdict, the first cells' tables, and after 8, which names where the split breaks, how many different columns
-- there are
pub record TryAnswer : Type 0 where
  pub verdict : Verdict
  pub d : FirstCells
  pub columns : ℕ

-- the answer, and the room for H afterwards
pub record TryOutcome : Type 0 where
  pub answer : TryAnswer
  pub room : List ℕ

-- after 8, how many different columns the named b has
abbrev pub columns_named : ℕ → ℕ → ℕ → List ℕ → Refusal → ℕ
columns_named n A B t why =
    cond (eqb why.number 8) (length (columns n (table_bit t) (bit A) (bit B) why.place)) 0

-- done: the first cells' tables, and H into the room; its bytes past H's table stay
abbrev pub try_done : ℕ → ℕ → ℕ → ℕ → List ℕ → List ℕ → TryOutcome
try_done n r A B t room = record {
  answer = record { verdict = Fine; d = first_cells n (table_bit t) (bit A) (bit B) r; columns = 0 };
  room = into (bytes_h n (table_bit t) (bit A) (bit B) r) room;
}

-- refused: the tables are 0, and the room is as it was lent; 8 tells where and how many
abbrev pub try_not : ℕ → ℕ → ℕ → List ℕ → List ℕ → Refusal → TryOutcome
try_not n A B t room why = record {
  answer = record { verdict = Refused why; d = no_cells; columns = columns_named n A B t why };
  room = room;
}

-- what a result says
abbrev pub try_answer : Result FirstCells Why → TryAnswer
try_answer (Ok d) = record { verdict = Fine; d = d; columns = 0 }
try_answer (Err why) = record { verdict = Refused (refusal_of why); d = no_cells; columns = columns_of why }

-- what try is to return and leave, whatever is handed over
unfoldable pub try_outcome : Edition → ℕ → ℕ → ℕ → ℕ → ℕ → List ℕ → List ℕ → TryOutcome
try_outcome e n K r A B t room =
    reply (verdict (try_lines e n K r A B t room)) (try_done n r A B t room)
    (try_not n A B t room)
