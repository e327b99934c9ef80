-- A question to the bench, and what the definitions answer: the number, the values, and the result bytes as they are
-- afterwards.
use Rattle.std.specs.Prelude.{List, [], ◌∷◌, ℕ, ◌*◌, replicate, take}
use Rattle.bits.specs.Numbers.{val}
use Rattle.tables.specs.Cells.{table_number}
use Rattle.sheets.specs.Edition.{record_size, most_records, first_edition}
use Rattle.tables.specs.Work.{work_length}
use Rattle.refusals.specs.Lines.{number_of, place_of}
use Rattle.splitting.specs.TrySplit.{TryOutcome, try_outcome}
use Rattle.finding.specs.FindBest.{FindOutcome, find_outcome}
use Rattle.running.specs.RunSheet.{RunAnswer, run_own}
use Rattle.rebuilding.specs.RebuildTable.{RebuildOutcome, rebuild_own}
use Rattle.bench.specs.MakeSheet.{MakeOutcome, make_outcome}
use Rattle.programs.specs.BenchProgram.{written}
use Rattle.formulas.specs.Text.{most_text}
use Rattle.formulas.specs.ReadFormula.{ReadOutcome, read_outcome}
use Rattle.printing.specs.WriteFormula.{WriteOutcome, write_own}
use Rattle.claims.specs.Words.{records_of}

-- what the bench can be asked
pub data Question : Type 0 where
  -- n, K, the masks A and B, the table and the room for H
  trying : ℕ → ℕ → ℕ → ℕ → List ℕ → List ℕ → Question
  -- n, K and the table
  finding : ℕ → ℕ → List ℕ → Question
  making : ℕ → ℕ → List ℕ → Question
  -- n, the sheet and the assignment
  running : ℕ → List ℕ → ℕ → Question
  -- n, the sheet and the lent table
  rebuilding : ℕ → List ℕ → List ℕ → Question
  -- n, the text and the lent table
  parsing : ℕ → List ℕ → List ℕ → Question
  -- n and the sheet
  printing : ℕ → List ℕ → Question
  -- the bytes that the bench program reads
  reading : List ℕ → Question

-- the lent sheet, preset to AA
abbrev pub lent_sheet : List ℕ
lent_sheet = replicate (record_size * most_records) 0xAA

-- the lent work area, preset to AA
abbrev pub lent_work : List ℕ
lent_work = replicate work_length 0xAA

-- the lent room for a text, preset to AA
abbrev pub lent_text : List ℕ
lent_text = replicate most_text 0xAA

-- the number, D, where it broke and how many columns there are, the room
abbrev pub say_try : TryOutcome → List ℕ
say_try o =
    number_of o.answer.verdict ∷ table_number o.answer.d.first ∷ place_of o.answer.verdict
    ∷ o.answer.columns ∷ o.room

-- the number and the masks
abbrev pub say_find : FindOutcome → List ℕ
say_find o = number_of o.answer.verdict ∷ o.answer.own ∷ o.answer.shared ∷ []

-- of the sheet, the records that were written
abbrev pub say_make : MakeOutcome → List ℕ
say_make o = number_of o.answer.verdict ∷ o.answer.count ∷ records_of first_edition o

-- the number, the bit, the index
abbrev pub say_run : RunAnswer → List ℕ
say_run a = number_of a.verdict ∷ val a.bit ∷ place_of a.verdict ∷ []

-- the number, the index, the table
abbrev pub say_rebuild : RebuildOutcome → List ℕ
say_rebuild o = number_of o.verdict ∷ place_of o.verdict ∷ o.table

-- the number, the place, the table
abbrev pub say_read : ReadOutcome → List ℕ
say_read o = number_of o.verdict ∷ place_of o.verdict ∷ o.table

-- the number and the place; of the room, the text that was written
abbrev pub say_write : WriteOutcome → List ℕ
say_write o = number_of o.answer.verdict ∷ place_of o.answer.verdict ∷ take o.answer.length o.room

-- what the definitions answer, in the first edition; what is made is for bench use
abbrev pub answer : Question → List ℕ
answer (trying n K A B t room) = say_try (try_outcome first_edition n K 1 A B t room)
answer (finding n K t) = say_find (find_outcome first_edition n K t lent_work)
answer (making n K t) = say_make (make_outcome first_edition 0 n K t lent_sheet lent_work)
answer (running n s x) = say_run (run_own first_edition n s x)
answer (rebuilding n s table) = say_rebuild (rebuild_own first_edition n s table)
answer (parsing n text table) = say_read (read_outcome n text table)
answer (printing n s) = say_write (write_own first_edition n s lent_text)
answer (reading input) = written input

-- an example: what is asked, and what is to be answered
pub record Example : Type 0 where
  pub asks : Question
  pub gets : List ℕ

-- the answers to a list of examples
abbrev pub answers : List Example → List (List ℕ)
answers [] = []
answers (e ∷ l) = answer e.asks ∷ answers l

-- and what each is to get
abbrev pub expected : List Example → List (List ℕ)
expected [] = []
expected (e ∷ l) = e.gets ∷ expected l
