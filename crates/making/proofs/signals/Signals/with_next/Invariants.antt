use mathlib.Core.Path.{◌≡◌}
use mathlib.Core.List.{◌++◌}
use Prim.Native.Nat.{◌+◌}
use Rattle.bits.specs.Lists.{list_of}
use Rattle.making.specs.Stage.{signals_of}
use Rattle.making.proofs.signals.Signals.with_next.Given as goal

abbrev pub invariant-loop-t : goal.invariant-loop-t
invariant-loop-t l =
    (signals_of l.signals ≡ signals_of l.fn.self ++ list_of l.t (λ t. l.fn.from + t))
    × (l.signals.count ≡ l.fn.self.count + l.t)
