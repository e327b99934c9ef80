use mathlib.Core.Path.{◌≡◌}
use Prim.Native.Nat.{◌-◌, ◌≤◌}
use Rattle.bits.specs.Below.{least}
use Rattle.sheets.specs.Sheet.{bad}
use Rattle.records.proofs.rules.first_bad.Given as goal

abbrev pub invariant-loop-i : goal.invariant-loop-i
invariant-loop-i l = least l.i (bad l.e l.d l.n l.s) ≡ l.i
