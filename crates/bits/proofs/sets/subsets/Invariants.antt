use mathlib.Core.Path.{◌≡◌}
use Prim.Native.Nat.{◌^◌, ◌≤◌}
use Rattle.bits.specs.Numbers.{bit, number}
use Rattle.bits.specs.Sets.{word_positions, is_subset}
use Rattle.bits.proofs.sets.subsets.Given as goal

abbrev pub invariant-loop-j : goal.invariant-loop-j
invariant-loop-j l = (l.j ≤ word_positions) × (l.r ≡ number (2 ^ l.j) (is_subset l.j (bit l.mask)))
