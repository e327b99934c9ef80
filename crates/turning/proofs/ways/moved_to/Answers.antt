-- The three bits of y are summed. Assumes nothing.
use mathlib.Core.Path.{◌≡◌, ap₂, ◌∙◌}
use mathlib.Core.Bool.{Bool, not, beq}
use Prim.Native.Nat.{ℕ, ◌+◌, ◌*◌}
use native.Mathlib.Omega.{arith}
use mir.Val.{bool_byte}
use Rattle.bits.specs.Numbers.{bit, val, number}
use Rattle.bits.proofs.Building.{bool_digit}
use Rattle.turning.specs.declared.ways.Way.{Way}
use Rattle.turning.specs.Ways.{flipped, place, moved}
use Rattle.turning.proofs.Bits.{differs}
use Rattle.turning.proofs.ways.moved_to.Goals as goal

abbrev bit_of_y : Way → ℕ → ℕ → Bool
bit_of_y w x j = flipped (bit w.mask j) (bit x (place w j))

digit_is : (w : Way) (x j : ℕ) {s t : Bool} → s ≡ bit x (place w j) → t ≡ bit w.mask j
    → bool_byte (not (beq s t)) ≡ val (bit_of_y w x j)
digit_is w x j {s} {t} p q = bool_digit (differs s t ∙ ap₂ flipped q p)

summed : (w : Way) (x a b c : ℕ) → a ≡ val (bit_of_y w x 0) → b ≡ val (bit_of_y w x 1) → c ≡ val (bit_of_y w x 2)
    → a + b * 2 + c * 4 ≡ moved w x
unfolding moved number
summed w x a b c p q r = omega arith

pub returns : goal.returns
returns c =
    let a = c.args in
    summed a.w a.x _ _ _ (digit_is a.w a.x 0 c.bit_of.ensures c.bit_of-2.ensures)
    (digit_is a.w a.x 1 c.bit_of-3.ensures c.bit_of-4.ensures)
    (digit_is a.w a.x 2 c.bit_of-5.ensures c.bit_of-6.ensures)
