-- Read a formula into a lent table.
use Rattle.std.specs.Prelude.{List, [], ◌∷◌, ℕ}
use Rattle.tables.specs.Table.{table_of}
use Rattle.refusals.specs.Verdicts.{Refusal, Verdict, Fine, Refused}
use Rattle.refusals.specs.Lines.{Line, verdict, reply}
use Rattle.refusals.specs.Refusals.{bad_inputs, bad_table}
use Rattle.formulas.specs.Reading.{text_of, value_in}
use Rattle.formulas.specs.Refusals.{bad_text}

-- form: 1 and 3, then 16
abbrev pub read_lines : ℕ → List ℕ → List ℕ → List Line
read_lines n s table = bad_inputs n ∷ bad_table n table ∷ bad_text n s ∷ []

-- the verdict, and the lent table afterwards
pub record ReadOutcome : Type 0 where
  pub verdict : Verdict
  pub table : List ℕ

-- done: the table of the formula's values written whole, spare bits zero
abbrev pub read_done : ℕ → List ℕ → ReadOutcome
read_done n s = record { verdict = Fine; table = table_of n (value_in (text_of n s)) }

-- refused: the table is as it was lent
abbrev pub read_not : List ℕ → Refusal → ReadOutcome
read_not table r = record { verdict = Refused r; table = table }

-- what the reader is to return and leave, whatever is handed over
unfoldable pub read_outcome : ℕ → List ℕ → List ℕ → ReadOutcome
read_outcome n s table = reply (verdict (read_lines n s table)) (read_done n s) (read_not table)
