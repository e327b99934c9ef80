-- What the record rules leave for times: which signals a sheet's cells read.
use Rattle.std.specs.Prelude.{◌≡◌, ℕ, ◌+◌, ◌*◌, ◌<◌, ◌≤◌, List, length}
use Rattle.sheets.specs.declared.kinds.Edition.{Edition}
use Rattle.sheets.specs.Edition.{IsEdition, most_records}
use Rattle.sheets.specs.Record.{byte_at}
use Rattle.sheets.specs.Sheet.{record_bytes}

-- 16 inputs and 15 cells
abbrev pub most_signals : ℕ
most_signals = 31

-- the bytes r of a record whose cell reads some signals, few, each of a gate's
pub record Timeable (e : Edition) (r : List ℕ) : Type 0 where
  pub sound : IsEdition e
  pub long : length r ≡ e.size
  pub some : 1 ≤ byte_at r 0
  pub few : byte_at r 0 ≤ e.most
  pub known : (j : ℕ) → j < byte_at r 0 → byte_at r (j + 1) < most_signals

-- a sheet of m such records
pub record Timed (e : Edition) (s : List ℕ) (m : ℕ) : Type 0 where
  pub sound : IsEdition e
  pub most : m ≤ most_records
  pub long : e.size * m ≤ length s
  pub reads : (i : ℕ) → i < m → Timeable e (record_bytes e s i)
