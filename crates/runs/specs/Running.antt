-- What running a record needs of its bytes, and what its cell reads.
use Rattle.std.specs.Prelude.{◌≡◌, Bool, ◌&&◌, List, ℕ, ◌+◌, ltb, length}
use Rattle.sheets.specs.declared.kinds.Edition.{Edition}
use Rattle.sheets.specs.Edition.{IsEdition}
use Rattle.sheets.specs.Record.{byte_at, Readable}

-- the bytes r of a record that can be run
pub record Runnable (e : Edition) (r : List ℕ) : Type 0 where
  pub sound : IsEdition e
  pub long : length r ≡ e.size
  pub readable : Readable e (byte_at r)

-- the value of input j of a record's cell where signal s is v s; an input that the cell hasn't counts as 0
abbrev pub input_at : (ℕ → ℕ) → (ℕ → Bool) → ℕ → Bool
input_at b v j = ltb j (b 0) && v (b (j + 1))
