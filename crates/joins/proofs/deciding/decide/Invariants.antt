use mathlib.Core.Bool.{Bool}
use Prim.Native.Nat.{ℕ, ◌+◌}
use Rattle.tables.specs.Table.{table_bit}
use Rattle.joins.specs.declared.pairs.Left.{Left}
use Rattle.joins.specs.Left.{Unfixed, Reduced, DecidedFrom}
use Rattle.joins.proofs.deciding.decide.Given as goal

-- what holds of what is left while j is looked at
pub record Looked (n : ℕ) (F : ℕ → Bool) (g : Left) (j : ℕ) : Type 0 where
  pub reduced : Reduced n F g
  pub from : DecidedFrom n g (j + 1)
  pub unfixed : Unfixed n g j

abbrev pub invariant-loop-p : goal.invariant-loop-p
invariant-loop-p l = Looked l.n (table_bit l.t) l.g l.j

abbrev pub decreases-loop-p : goal.decreases-loop-p
decreases-loop-p l = l.g.decided
