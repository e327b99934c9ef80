use mathlib.Core.Path.{◌≡◌}
use mathlib.Core.List.{List}
use Prim.Native.Nat.{ℕ, ◌≤◌}
use lib.ListN.{length, get_or}
use Rattle.bits.specs.Numbers.{bit}
use Rattle.tables.specs.Table.{most_inputs}
use Rattle.bits.specs.Lists.{list_of}
use Rattle.chains.specs.Chain.{pick}
use Rattle.making.proofs.signals.Signals.pick.Given as goal

-- the first m places
abbrev pub first : ℕ → List ℕ → List ℕ
first m l = list_of m (λ j. get_or l j 0)

abbrev pub invariant-loop-j : goal.invariant-loop-j
invariant-loop-j l =
    (first l.count l.at ≡ pick l.j (bit l.set) (first l.self.count l.self.at)) × (l.count ≤ l.j)
    × (length l.at ≡ most_inputs)
