-- The inspecting program: what it writes is a definition of the bytes that it reads, and of nothing else.
use Rattle.std.specs.Prelude.{cond, List, [], ◌∷◌, ◌++◌, ℕ, zero, suc, ◌+◌, ◌*◌, ◌/◌, ◌%◌, ltb, length, get_or, take, drop, replicate}
use Rattle.tables.specs.Table.{most_inputs, table_length}
use Rattle.sheets.specs.Edition.{record_size, most_records, first_edition}
use Rattle.refusals.specs.Verdicts.{Verdict}
use Rattle.refusals.specs.Lent.{into}
use Rattle.refusals.specs.Lines.{number_of, place_of}
use Rattle.inspection.specs.CheckSheet.{check_own}

-- n, the longest table, the longest sheet and one byte more are read; what follows changes nothing
abbrev pub most_read : ℕ
most_read = 1 + table_length most_inputs + record_size * most_records + 1

-- the decimal digits of x in ASCII, in at most k steps: those of x / 10, where x has more than one, then the last
abbrev pub digits : ℕ → ℕ → List ℕ
digits zero x = []
digits (suc k) x = cond (ltb x 10) [] (digits k (x / 10)) ++ ((48 + x % 10) ∷ [])

-- x in decimal, without leading zeros, and 0 as `0`; a step makes x smaller, so that x + 1 steps are enough
unfoldable pub decimal : ℕ → List ℕ
decimal x = digits (suc x) x

-- the input is n, a missing n being 0; then the table, as long as n says if the input is; then the sheet
unfoldable pub inspected : List ℕ → Verdict
inspected input =
    let n = get_or input 0 0 in
    check_own first_edition n (take (table_length n) (drop 1 input)) (drop (table_length n) (drop 1 input))

-- the answer number, a space and the place
abbrev pub shown : Verdict → List ℕ
shown v = decimal (number_of v) ++ (32 ∷ decimal (place_of v))

-- what the program writes, whatever it reads
abbrev pub written : List ℕ → List ℕ
written input = shown (inspected input)

-- no answer is longer: three digits of a byte, a space, and twenty digits of a place in 64 bits
abbrev pub most_written : ℕ
most_written = 24

-- how many bytes are to be written, and the room that they begin
pub record ProgramOutcome : Type 0 where
  pub count : ℕ
  pub out : List ℕ

-- those bytes, written over the beginning of a room of zeros
abbrev pub program_outcome : List ℕ → ProgramOutcome
program_outcome input = record {
  count = length (written input);
  out = into (written input) (replicate most_written 0);
}
