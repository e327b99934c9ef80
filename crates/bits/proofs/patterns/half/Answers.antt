-- Input j is v where its bit is, for v = 1, and where its bit is not, for v = 0. Assumes nothing.
use mathlib.Core.Path.{◌≡◌, refl, sym, ap, ◌∙◌}
use mathlib.Core.Bool.{Bool, true, false, not, ◌&&◌, beq}
use Rattle.bits.specs.Numbers.{bit}
use Rattle.bits.proofs.patterns.half.Goals as goal

pub returns-then-v : goal.returns-then-v
returns-then-v c =
    let a = c.args in
    λ x h. c.upper.ensures x h ∙ ap (λ (t : Bool). bit a.table x && t)
    (go (bit x a.j) ∙ ap (beq (bit x a.j)) (sym c.if-v.true))
  where
    go : (s : Bool) → s ≡ beq s true
    go true = refl
    go false = refl

pub returns-else-v : goal.returns-else-v
returns-else-v c =
    let a = c.args in
    λ x h. c.lower.ensures x h ∙ ap (λ (t : Bool). bit a.table x && t)
    (go (bit x a.j) ∙ ap (beq (bit x a.j)) (sym c.if-v.false))
  where
    go : (s : Bool) → not s ≡ beq s false
    go true = refl
    go false = refl
