use Prim.Native.Nat.{◌+◌}
use lib.ListN.{get_or}
use Rattle.bits.specs.Patterns.{chosen}
use Rattle.bits.proofs.Filling.{Filled}
use Rattle.runs.proofs.words.halve.Given as goal

abbrev pub invariant-loop-h : goal.invariant-loop-h
invariant-loop-h l =
    Filled 0 l.half (λ h. chosen l.s (get_or l.initial.v h 0) (get_or l.initial.v (l.half + h) 0)) l.initial.v l.v l.h
