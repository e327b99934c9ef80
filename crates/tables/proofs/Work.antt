-- Half of a work area holds any gate's table. Assumes nothing.
use Prim.Native.Nat.{ℕ, ◌-◌, ◌≤◌}
use native.Mathlib.Omega.{arith}
use lib.Pow.{pow_mono}
use Rattle.tables.specs.Table.{most_inputs, table_length}
use Rattle.tables.specs.Work.{half}

pub half-holds : (n : ℕ) → n ≤ most_inputs → table_length n ≤ half
half-holds n h = pow_mono {i = n - 3} {j = most_inputs - 3} (omega arith)
