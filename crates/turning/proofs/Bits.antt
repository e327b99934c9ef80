-- Two bits that differ: the one is the other flipped. Assumes nothing.
use Rattle.std.proofs.Common.{◌≡◌, Bool, true, false, not, refl}
use mathlib.Core.Bool.{beq}
use Rattle.bits.specs.Numbers.{flipped}

pub differs : (a b : Bool) → not (beq a b) ≡ flipped b a
differs true true = refl
differs true false = refl
differs false true = refl
differs false false = refl
