-- A network's cells one by one: which signals each of them reads, and the values of all signals.
use Rattle.std.specs.Prelude.{◌≡◌, Bool, true, cond, List, [], ◌∷◌, ℕ, suc, ◌+◌, ◌<◌, length, get_or, eqb}
use Rattle.bits.specs.Lists.{member}
use Rattle.sheets.specs.Network.{Cell, output}

-- cell i, and past the last one a cell that reads nothing
abbrev pub cell_at : List Cell → ℕ → Cell
cell_at cs i = get_or cs i (record { signals = []; table = 0 })

-- cell i reads signal s
abbrev pub does_read : List Cell → ℕ → ℕ → Bool
does_read cs i s = member s (cell_at cs i).signals

-- cell i of a network of n inputs is read: a later cell reads its signal
pub record ReadLater (n : ℕ) (cs : List Cell) (i : ℕ) : Type 0 where
  pub reader : ℕ
  pub later : i < reader
  pub within : reader < length cs
  pub reads : does_read cs reader (n + i) ≡ true

-- the values of the signals after the cells, the first of which gives signal i
unfoldable pub values : ℕ → List Cell → (ℕ → Bool) → ℕ → Bool
values i [] v = v
values i (c ∷ cs) v = values (suc i) cs (λ s. cond (eqb s i) (output c v) (v s))
