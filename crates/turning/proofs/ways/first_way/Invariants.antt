use mathlib.Core.Path.{◌≡◌}
use mathlib.Core.Bool.{Bool}
use Prim.Native.Nat.{ℕ}
use Rattle.bits.specs.Below.{least}
use Rattle.turning.specs.Listing.{way_at, turns}
use Rattle.turning.proofs.ways.first_way.Given as goal

abbrev pub test : ℕ → ℕ → ℕ → Bool
test f g i = turns (way_at i) f g

abbrev pub invariant-loop-i : goal.invariant-loop-i
invariant-loop-i l = least l.i (test l.f l.g) ≡ l.i
