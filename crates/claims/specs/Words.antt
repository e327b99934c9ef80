-- Words that the claims use.
use Rattle.std.specs.Prelude.{◌≡◌, ◌↔◌, ◌⊎◌, Bool, true, ◌&&◌, List, [], ◌∷◌, ℕ, ◌+◌, ◌*◌, ◌^◌, ◌<◌, ◌≤◌, leb, length, get_or, take, drop}
use Rattle.bits.specs.Sets.{size}
use Rattle.splits.specs.Columns.{columns}
use Rattle.sheets.specs.declared.kinds.Edition.{Edition}
use Rattle.sheets.specs.Network.{Cell}
use Rattle.sheets.specs.Record.{Keeps}
use Rattle.sheets.specs.Sheet.{record_at, records, sheet_cells}
use Rattle.refusals.specs.Verdicts.{Verdict, Fine}
use Rattle.refusals.specs.Lines.{Line, InOrder, Given, number_of}
use Rattle.bench.specs.MakeSheet.{MakeOutcome}

-- a verdict is the one that a call's lines ask for
pub record ByLines (v : Verdict) (ls : List Line) : Type 0 where
  -- done, or the number of the first line of the list that holds
  pub listed : (v ≡ Fine) ⊎ Given (number_of v) ls
  -- a number is given exactly when its line holds and no earlier one does
  pub exactly : (k : ℕ) → (k ≡ 0 → ⊥) → (number_of v ≡ k) ↔ Given k ls
  -- and 0, done, exactly when no line holds
  pub done : (number_of v ≡ 0) ↔ InOrder ls

-- the numbers of the lines are k or more, and never fall
abbrev pub rising : ℕ → List Line → Bool
rising k [] = true
rising k (l ∷ ls) = leb k l.gives.number && rising l.gives.number ls

-- what a lent slice of u8 holds: every number is a byte
abbrev pub AllBytes : List ℕ → Type 0
AllBytes t = (i : ℕ) → i < length t → get_or t i 0 < 256

-- the records that make wrote: so many of the first bytes of the lent sheet, as they are afterwards
abbrev pub records_of : Edition → MakeOutcome → List ℕ
records_of e o = take (e.size * o.answer.count) o.sheet

-- the network that these bytes say
abbrev pub network_of : Edition → MakeOutcome → List Cell
network_of e o = sheet_cells e (records_of e o) o.answer.count

-- record i of a sheet is the first that breaks the record rules (the desk's byte is d; it may read only signals below
-- n + i)
pub record FirstBad (e : Edition) (d n : ℕ) (s : List ℕ) (i : ℕ) : Type 0 where
  pub within : i < records e s
  pub breaks : Keeps e d (n + i) (record_at e s i) → ⊥
  pub before : (j : ℕ) → j < i → Keeps e d (n + j) (record_at e s j)

-- b is the least assignment of B with more than m different columns, and has k of them
pub record Breaks (n : ℕ) (F : ℕ → Bool) (A B : ℕ → Bool) (m b k : ℕ) : Type 0 where
  pub within : b < 2 ^ size n B
  pub count : k ≡ length (columns n F A B b)
  pub more : m < length (columns n F A B b)
  pub before : (b' : ℕ) → b' < b → length (columns n F A B b') ≤ m

-- two outcomes of make that differ in the desk's byte of their records alone: answer, work area, every other byte of a
-- record, and the bytes after the last record are the same
pub record OtherDesk (e : Edition) (o o' : MakeOutcome) : Type 0 where
  pub answer : o.answer ≡ o'.answer
  pub work : o.work ≡ o'.work
  pub bytes : (i j : ℕ) → (j ≡ e.most + 1 → ⊥) → record_at e (records_of e o) i j ≡ record_at e (records_of e o') i j
  pub rest : drop (e.size * o.answer.count) o.sheet ≡ drop (e.size * o'.answer.count) o'.sheet
