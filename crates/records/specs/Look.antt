-- What a look at a sheet says: its length, its first bad record, or how many records it has.
use Rattle.std.specs.Prelude.{◌≡◌, true, false, List, ℕ, ◌<◌, Result, Ok, Err}
use Rattle.sheets.specs.declared.kinds.Edition.{Edition}
use Rattle.records.specs.declared.rules.BadSheet.{BadSheet}
use Rattle.records.specs.declared.rules.BadSheet.TheVariants.{Length, Record}
use Rattle.sheets.specs.Sheet.{first_bad, bad_length, records}

-- what a look says: a wrong length; else the first bad record; else that there is none, and how many records there are
abbrev pub Saw : Edition → ℕ → ℕ → List ℕ → Result ℕ BadSheet → Type 0
Saw e d n s (Err Length) = bad_length e s ≡ true
Saw e d n s (Err (Record i)) = (bad_length e s ≡ false) × (first_bad e d n s (records e s) ≡ i) × (i < records e s)
Saw e d n s (Ok m) = (bad_length e s ≡ false) × (first_bad e d n s (records e s) ≡ m) × (m ≡ records e s)
