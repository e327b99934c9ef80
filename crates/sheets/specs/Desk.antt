-- The desk that a sheet is for: 0 for bench use, or 1 to 4. It stands in the byte after the signals, alike in all
-- records.
use Rattle.std.specs.Prelude.{◌≡◌, cond, List, ℕ, ◌+◌, ◌<◌, ◌≤◌, leb}
use Rattle.sheets.specs.declared.kinds.Edition.{Edition}
use Rattle.sheets.specs.Edition.{most_desk}
use Rattle.sheets.specs.Record.{Keeps}
use Rattle.sheets.specs.Sheet.{record_at}

-- the desk's byte of record i
abbrev pub desk_at : Edition → List ℕ → ℕ → ℕ
desk_at e s i = record_at e s i (e.most + 1)

-- record i belongs on its sheet: it keeps the record rules (it may read only signals below n + i), and its desk is one,
-- and the first record's
pub record Belongs (e : Edition) (n : ℕ) (s : List ℕ) (i : ℕ) : Type 0 where
  pub rules : Keeps e (desk_at e s i) (n + i) (record_at e s i)
  pub known : desk_at e s i ≤ most_desk
  pub alike : desk_at e s i ≡ desk_at e s 0

-- record i is the first of m that doesn't
pub record FirstAmiss (e : Edition) (n : ℕ) (s : List ℕ) (m i : ℕ) : Type 0 where
  pub within : i < m
  pub amiss : Belongs e n s i → ⊥
  pub before : (j : ℕ) → j < i → Belongs e n s j

-- all m records are for the desk d
pub record OneDesk (e : Edition) (s : List ℕ) (m d : ℕ) : Type 0 where
  pub known : d ≤ most_desk
  pub alike : (i : ℕ) → i < m → desk_at e s i ≡ d

-- the desk that a sheet is looked over for: the first record's, and 0 where that says none, so that the first record
-- then breaks the rules
unfoldable pub desk_of : Edition → List ℕ → ℕ
desk_of e s = cond (leb (desk_at e s 0) most_desk) (desk_at e s 0) 0
