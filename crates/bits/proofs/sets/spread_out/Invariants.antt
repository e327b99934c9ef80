use Rattle.bits.specs.Numbers.{bit}
use Rattle.bits.specs.Sets.{spread}
use Rattle.bits.proofs.Packing.{Packed}
use Rattle.bits.proofs.sets.spread_out.Given as goal

abbrev pub invariant-loop-j : goal.invariant-loop-j
invariant-loop-j l = Packed l.n l.mask (λ j. spread j (bit l.mask) l.v) l.r l.k l.j
