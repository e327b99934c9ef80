-- The rows of a certificate, and the table's bits there. Assumes nothing.
use mathlib.Core.Path.{◌≡◌}
use mathlib.Core.List.{List}
use Prim.Native.Nat.{ℕ, ◌/◌, ◌<◌}
use native.Mathlib.Omega.{arith}
use lib.ListN.{length}
use Rattle.tables.specs.Table.{table_length}
use Rattle.tables.proofs.Bytes.{length-holds}
use Rattle.clauses.specs.declared.variables.Size.{Size}
use Rattle.clauses.specs.Step.{row_at}
use Rattle.clauses.specs.Shapes.{HasRows}

-- the table has a bit at a row
pub bit_room : (z : Size) (c t : List ℕ) → HasRows z c → length t ≡ table_length z.inputs → (a : ℕ) → a < z.rows
    → {x : ℕ} → x ≡ row_at c a → x / 8 < length t
bit_room z c t h e a l {x} p = omega (arith, length-holds z.inputs, h.below a l)
