use mathlib.Core.Path.{◌≡◌}
use mathlib.Core.Bool.{true}
use Rattle.bits.specs.Below.{every}
use Rattle.turning.specs.Listing.{agrees}
use Rattle.turning.proofs.ways.does_turn.Given as goal

abbrev pub invariant-loop-x : goal.invariant-loop-x
invariant-loop-x l = every l.x (agrees l.w l.f l.g) ≡ true
