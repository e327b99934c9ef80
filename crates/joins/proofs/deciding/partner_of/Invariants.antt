use mathlib.Core.Path.{◌≡◌}
use mathlib.Core.Bool.{Bool, true}
use Prim.Native.Nat.{ℕ, ◌≤◌}
use Rattle.bits.specs.Numbers.{bit}
use Rattle.tables.specs.Table.{table_bit}
use Rattle.joins.specs.StandsFor.{StandsFor}
use Rattle.joins.specs.Left.{gate_left}
use Rattle.joins.proofs.deciding.partner_of.Given as goal

-- j stands for no decided input from i on
abbrev pub NoneFrom : ℕ → (ℕ → Bool) → ℕ → ℕ → ℕ → Type 0
NoneFrom n G mask j i = (k : ℕ) → i ≤ k → bit mask k ≡ true → (v : Bool) → StandsFor n G k j v → ⊥

abbrev pub invariant-loop-i : goal.invariant-loop-i
invariant-loop-i l = NoneFrom l.n (gate_left l.n (table_bit l.t) l.g) l.g.decided l.j l.i
