use mathlib.Core.Path.{◌≡◌}
use Prim.Native.Nat.{◌-◌}
use lib.ListN.{length, take, drop}
use Rattle.cards.specs.Stores.{load_stores, stored}
use Rattle.cards.proofs.stores.make_stores.Given as goal

abbrev pub invariant-loop-i : goal.invariant-loop-i
invariant-loop-i l =
    (length l.card ≡ length l.initial.card)
    × (l.card ≡ stored (take (l.i - l.first) (drop l.first (load_stores l.d l.n l.s))) l.initial.card)
