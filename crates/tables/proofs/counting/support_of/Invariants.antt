use mathlib.Core.Path.{◌≡◌}
use Prim.Native.Nat.{◌≤◌}
use Rattle.tables.specs.Table.{table_bit}
use Rattle.tables.proofs.Living.{live}
use Rattle.tables.proofs.counting.support_of.Given as goal

abbrev pub invariant-loop-j : goal.invariant-loop-j
invariant-loop-j l = (l.live ≡ live l.n (table_bit l.t) l.j) × (l.j ≤ l.n)
