use mathlib.Core.Path.{◌≡◌}
use Prim.Native.Nat.{◌^◌, ◌<◌, ◌≤◌}
use Rattle.bits.specs.Numbers.{bit}
use Rattle.bits.specs.Sets.{word_positions, size}
use Rattle.tables.proofs.Squeezing.{Squeezed}
use Rattle.tables.proofs.fixed.squeeze.Given as goal

abbrev pub invariant-loop-j : goal.invariant-loop-j
invariant-loop-j l =
    (l.j ≤ word_positions) × (l.k ≤ l.j) × (l.k ≡ size l.j (bit l.mask)) × (l.w < 2 ^ 64)
    × Squeezed l.word l.mask l.w l.j
