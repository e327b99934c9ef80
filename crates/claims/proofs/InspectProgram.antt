-- The inspecting program: a sheet that goes on is refused however long it is, so that a part of it is enough to read.
-- Assumes nothing.
use mathlib.Core.Path.{◌≡◌, sym}
use mathlib.Core.Bool.{true, not}
use mathlib.Core.List.{List}
use Prim.Native.Nat.{ℕ, ◌*◌, ◌%◌, ◌<◌}
use lib.Dec.{eqb}
use lib.ListN.{length, get_or, take, drop}
use borrow.Author.Tests.{lt-ltb}
use Rattle.bits.proofs.Bools.{or_right}
use Rattle.tables.specs.Table.{table_length}
use Rattle.sheets.specs.Edition.{record_size, most_records, first_edition}
use Rattle.sheets.specs.Desk.{desk_of}
use Rattle.refusals.specs.Verdicts.{Refused}
use Rattle.refusals.specs.Lines.{InOrder, refusal}
use Rattle.refusals.specs.Refusals.{bad_sheet}
use Rattle.refusals.proofs.Lines.{decides, here, later}
use Rattle.inspection.specs.CheckSheet.{table_lines, check_lines, check_outcome}
use Rattle.programs.specs.InspectProgram.{inspected}

module _ (input : List ℕ) where
  -- what was read: n, the table and the sheet
  abbrev n : ℕ
  n = get_or input 0 0

  abbrev t : List ℕ
  t = take (table_length n) (drop 1 input)

  abbrev s : List ℕ
  s = drop (table_length n) (drop 1 input)

  -- a sheet longer than 240 bytes is 9 where n and the table are in order, whatever follows
  pub long_sheet : InOrder (table_lines n t) → record_size * most_records < length s → inspected input
      ≡ Refused (refusal 9 0)
  unfolding inspected check_outcome
  long_sheet w h =
      let wrong : (bad_sheet first_edition s).holds ≡ true = or_right (eqb (length s) 0) _
      (or_right (not (eqb (length s % record_size) 0)) _ (lt-ltb (record_size * most_records) (length s) h)) in
      sym (decides (check_lines first_edition (desk_of first_edition s) n t s)
      (later w.0 (later w.1.0 (later w.1.1.0 (here wrong)))))
