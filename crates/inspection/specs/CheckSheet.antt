-- Check a sheet against a table.
use Rattle.std.specs.Prelude.{◌≡◌, List, [], ◌∷◌, ◌++◌, ℕ, ◌^◌, ◌<◌}
use Rattle.tables.specs.Table.{table_bit}
use Rattle.sheets.specs.declared.kinds.Edition.{Edition}
use Rattle.sheets.specs.Desk.{desk_of}
use Rattle.sheets.specs.Sheet.{records, sheet_bit, Good}
use Rattle.sheets.specs.Reading.{EachRead}
use Rattle.refusals.specs.Verdicts.{Verdict}
use Rattle.refusals.specs.Lines.{Line, verdict}
use Rattle.refusals.specs.Refusals.{sheet_lines, table_differs, unread_record}
pub use Rattle.refusals.specs.Refusals.{table_lines}

-- the sheet against it: 9, 10 and 12
abbrev pub against_lines : Edition → ℕ → ℕ → List ℕ → List ℕ → List Line
against_lines e d n t s = sheet_lines e d n s ++ (table_differs e n t s ∷ [])

-- the gate's table, 1, 3 and 4, and the sheet against it, then 15
abbrev pub check_lines : Edition → ℕ → ℕ → List ℕ → List ℕ → List Line
check_lines e d n t s = (table_lines n t ++ against_lines e d n t s) ++ (unread_record e n s ∷ [])

-- what check is to answer where the sheet is to be the desk d's, whatever is handed over: `Fine` says that the sheet is
-- accepted
unfoldable pub check_outcome : Edition → ℕ → ℕ → List ℕ → List ℕ → Verdict
check_outcome e d n t s = verdict (check_lines e d n t s)

-- and for the sheet's own desk
abbrev pub check_own : Edition → ℕ → List ℕ → List ℕ → Verdict
check_own e n t s = check_outcome e (desk_of e s) n t s

-- in words, of a gate whose table is in order: the sheet keeps the record rules, at every assignment it gives the
-- table's bit, and each record but the last is read
pub record Accepted (e : Edition) (d n : ℕ) (t s : List ℕ) : Type 0 where
  pub rules : Good e d n s (records e s)
  pub gives : (x : ℕ) → x < 2 ^ n → sheet_bit e n s (records e s) x ≡ table_bit t x
  pub read : EachRead e n s (records e s)

-- x is the least assignment at which the sheet doesn't give the table's bit
pub record FirstDifferent (e : Edition) (n : ℕ) (t s : List ℕ) (x : ℕ) : Type 0 where
  pub within : x < 2 ^ n
  pub differ : sheet_bit e n s (records e s) x ≡ table_bit t x → ⊥
  pub before : (y : ℕ) → y < x → sheet_bit e n s (records e s) y ≡ table_bit t y
