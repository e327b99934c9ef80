-- `does_turn` meets its contract. The loop's invariant: the tables agree at every assignment passed. Assumes nothing.
use mathlib.Core.Path.{◌≡◌, sym, ap, ap₂, ◌∙◌}
use mathlib.Core.Bool.{Bool, not, beq}
use Prim.Native.Nat.{ℕ}
use native.Mathlib.Omega.{arith}
use borrow.Author.Tests.{not-true, not-false}
use Rattle.bits.specs.Numbers.{bit}
use Rattle.bits.specs.Below.{every}
use Rattle.bits.proofs.Below.{every_more, every_stop}
use Rattle.turning.specs.declared.ways.Way.{Way}
use Rattle.turning.specs.Ways.{flipped, moved}
use Rattle.turning.specs.Listing.{agrees, turns}
use Rattle.turning.proofs.Bits.{differs}
use Rattle.turning.proofs.Group.{moved-lt}
use Rattle.turning.proofs.ways.does_turn.Goals as goal

-- what is looked at
seen : (w : Way) (f g x : ℕ) {y : ℕ} {a d : Bool} → y ≡ moved w x → a ≡ bit f y → d ≡ bit g x
    → beq d (not (beq a w.flip)) ≡ agrees w f g x
seen w f g x {y} {a} p q s = ap₂ beq s (differs a w.flip ∙ ap (flipped w.flip) (q ∙ ap (bit f) p))

pub bit_of-requires : goal.bit_of-requires
bit_of-requires c = omega (arith, c.moved_to.ensures, moved-lt c.args.w c.loop-x.x)

pub returns-then-bit_of-turned : goal.returns-then-bit_of-turned
unfolding turns
returns-then-bit_of-turned c =
    let a = c.args in
    sym (every_stop 8 (agrees a.w a.f a.g) c.loop-x.x (omega arith)
    (sym (seen a.w a.f a.g c.loop-x.x c.moved_to.ensures c.bit_of.ensures c.bit_of-in-loop-x.ensures)
    ∙ not-true _ c.if-bit_of-turned.true))

pub loop-x-preserved : goal.loop-x-preserved
loop-x-preserved c =
    let a = c.args in
    every_more c.loop-x.x (agrees a.w a.f a.g) c.loop-x.invariant
    (sym (seen a.w a.f a.g c.loop-x.x c.moved_to.ensures c.bit_of.ensures c.bit_of-in-loop-x.ensures)
    ∙ not-false _ c.if-bit_of-turned.false)

pub returns : goal.returns
unfolding turns
returns c =
    let a = c.args in
    let z : c.loop-x.x ≡ 8 = omega arith in
    sym c.loop-x.invariant ∙ ap (λ (k : ℕ). every k (agrees a.w a.f a.g)) z
