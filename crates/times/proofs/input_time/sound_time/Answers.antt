-- `sound_time` meets its contract, kind by kind. Assumes nothing.
use Rattle.std.proofs.Common.{◌≡◌, Bool, ◌&&◌, sym, refl, ap, ◌∙◌}
use lib.Ieee.{Float, le}
use Rattle.times.specs.declared.input_time.InputTime.{InputTime}
use Rattle.times.specs.declared.input_time.InputTime.TheVariants.{Between}
use Rattle.times.specs.InputTimes.{in_range, sound_time}
use Rattle.times.proofs.input_time.sound_time.Goals as goal
use Rattle.times.proofs.input_time.sound_time.Goals.{then-in_range, else-in_range}

-- the answer for an earliest and a latest
at : {t : InputTime} {x y : Float} {p r : Bool} → t ≡ Between x y → in_range x ≡ p → (p && (in_range y && le x y)) ≡ r → r
    ≡ sound_time t
at {x = x} {y = y} e h k = sym (ap sound_time e ∙ ap (λ (q : Bool). q && (in_range y && le x y)) h ∙ k)

pub returns-in-Arrival : goal.returns-in-Arrival
returns-in-Arrival c = c.in_range.ensures ∙ sym (ap sound_time c.in-Arrival.is)

pub returns-then-in_range-2 : goal.returns-then-in_range-2
returns-then-in_range-2 c =
    elim c.if-in_range.branch [
      | then-in_range w ↦ at c.in-Between.is (sym c.in_range-in-Between.ensures ∙ w.if-in_range.true)
          (ap (λ (q : Bool). q && le c.in-Between.x c.in-Between.y)
          (sym w.in_range-then-in_range.ensures ∙ sym w.value-is ∙ c.if-in_range-2.true))
      | else-in_range w ↦ cc
    ]

pub returns-else-in_range-2 : goal.returns-else-in_range-2
returns-else-in_range-2 c =
    c.if-in_range-2.false
    ∙ elim c.if-in_range.branch [
      | then-in_range w ↦ at c.in-Between.is (sym c.in_range-in-Between.ensures ∙ w.if-in_range.true)
          (ap (λ (q : Bool). q && le c.in-Between.x c.in-Between.y)
          (sym w.in_range-then-in_range.ensures ∙ sym w.value-is ∙ c.if-in_range-2.false))
      | else-in_range w ↦ at c.in-Between.is (sym c.in_range-in-Between.ensures ∙ w.if-in_range.false) refl
    ]
