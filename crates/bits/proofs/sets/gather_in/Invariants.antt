use Rattle.bits.specs.Numbers.{bit}
use Rattle.bits.specs.Sets.{gather}
use Rattle.bits.proofs.Packing.{Packed}
use Rattle.bits.proofs.sets.gather_in.Given as goal

abbrev pub invariant-loop-j : goal.invariant-loop-j
invariant-loop-j l = Packed l.n l.mask (λ j. gather j (bit l.mask) l.x) l.r l.k l.j
