-- Make a sheet for a desk: how many cells, and their records in a lent sheet.
use Rattle.std.specs.Prelude.{cond, List, [], ◌∷◌, ◌++◌, ℕ, ◌^◌, leb, length, Result, Ok, Err}
use Rattle.bits.specs.Numbers.{number}
use Rattle.tables.specs.Table.{table_bit}
use Rattle.sheets.specs.declared.kinds.Edition.{Edition}
use Rattle.sheets.specs.Edition.{most_records}
use Rattle.sheets.specs.Network.{Cell}
use Rattle.sheets.specs.Writing.{sheet_bytes}
use Rattle.chains.specs.Chain.{Made, stuck, made}
use Rattle.chains.specs.Aside.{sheet_aside}
use Rattle.refusals.specs.Verdicts.{Refusal, Verdict, Fine, Refused}
use Rattle.refusals.specs.declared.verdicts.Refusal.{Refusal as Why}
use Rattle.refusals.specs.Results.{refusal_of}
use Rattle.refusals.specs.Lines.{Line, refusal, verdict, reply}
use Rattle.refusals.specs.Refusals.{gate_lines, bad_desk, short_sheet}
use Rattle.bench.specs.Refusals.{chain_stuck}
use Rattle.refusals.specs.Lent.{into, work_after}

-- the chain of a gate's table, as a number, with what does not count set aside
abbrev pub sheet_for : ℕ → ℕ → List ℕ → Made
sheet_for n K t = sheet_aside n K (number (2 ^ n) (table_bit t))

-- the cells of a chain
abbrev pub cells_in : Made → List Cell
cells_in stuck = []
cells_in (made cs) = cs

-- form and room: 1 to 4, 5 of the desk, and 6 of the sheet and the work area
abbrev pub make_form : Edition → ℕ → ℕ → ℕ → List ℕ → List ℕ → List ℕ → List Line
make_form e d n K t sheet work = gate_lines e n K t ++ (bad_desk d ∷ short_sheet e sheet work ∷ [])

-- and 8
abbrev pub make_lines : Edition → ℕ → ℕ → ℕ → List ℕ → List ℕ → List ℕ → List Line
make_lines e d n K t sheet work = make_form e d n K t sheet work ++ (chain_stuck (sheet_for n K t) ∷ [])

-- the verdict, and how many cells
pub record MakeAnswer : Type 0 where
  pub verdict : Verdict
  pub count : ℕ

-- the answer; the lent sheet and the work area afterwards
pub record MakeOutcome : Type 0 where
  pub answer : MakeAnswer
  pub sheet : List ℕ
  pub work : List ℕ

-- done: how many cells, and each record in its own bytes, for the desk d; bytes after the last record stay
abbrev pub make_done : Edition → ℕ → List Cell → List ℕ → List ℕ → MakeOutcome
make_done e d cs sheet work = record {
  answer = record { verdict = Fine; count = length cs };
  sheet = into (sheet_bytes e d cs) sheet;
  work = work_after Fine work;
}

-- refused: the count is 0, and the sheet is as it was lent
abbrev pub make_not : List ℕ → List ℕ → Refusal → MakeOutcome
make_not sheet work r = record {
  answer = record { verdict = Refused r; count = 0 };
  sheet = sheet;
  work = work_after (Refused r) work;
}

-- what comes of a chain: its records; or that it is stuck, 8; or longer than a sheet, 17
abbrev pub chain_written : Edition → ℕ → Made → List ℕ → List ℕ → MakeOutcome
chain_written e d stuck sheet work = make_not sheet work (refusal 8 0)
chain_written e d (made cs) sheet work =
    cond (leb (length cs) most_records) (make_done e d cs sheet work) (make_not sheet work (refusal 17 0))

-- what a result says
abbrev pub make_answer : Result ℕ Why → MakeAnswer
make_answer (Ok count) = record { verdict = Fine; count = count }
make_answer (Err why) = record { verdict = Refused (refusal_of why); count = 0 }

-- what make is to return and leave for the desk d, whatever is handed over
unfoldable pub make_outcome : Edition → ℕ → ℕ → ℕ → List ℕ → List ℕ → List ℕ → MakeOutcome
make_outcome e d n K t sheet work =
    reply (verdict (make_lines e d n K t sheet work)) (make_done e d (cells_in (sheet_for n K t)) sheet work)
    (make_not sheet work)
