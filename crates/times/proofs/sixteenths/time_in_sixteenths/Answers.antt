-- `time_in_sixteenths` meets its contract, kind by kind. Assumes nothing.
use Rattle.std.proofs.Common.{◌≡◌, Bool, true, ◌&&◌, sym, refl, ap, ◌∙◌}
use lib.Ieee.{Float, le}
use Rattle.bits.proofs.Bools.{and_left, and_right}
use Rattle.times.specs.declared.input_time.InputTime.{InputTime}
use Rattle.times.specs.declared.input_time.InputTime.TheVariants.{Arrival, Between}
use Rattle.times.specs.InputTimes.{in_range, sound_time}
use Rattle.times.specs.Sixteenths.{in_sixteenths, time_in_sixteenths}
use Rattle.times.proofs.sixteenths.time_in_sixteenths.Goals as goal

one : {t : InputTime} {x : Float} → sound_time t ≡ true → t ≡ Arrival x → in_range x ≡ true
one h e = sym (ap sound_time e) ∙ h

two : {t : InputTime} {x y : Float} → sound_time t ≡ true → t ≡ Between x y → (in_range x ≡ true) × (in_range y ≡ true)
two {x = x} {y = y} h e =
    let w : sound_time (Between x y) ≡ true = sym (ap sound_time e) ∙ h in (
      and_left (in_range x) (in_range y && le x y) w,
      and_left (in_range y) (le x y)
          (and_right (in_range x) (in_range y && le x y) w),
    )

-- the answer for an earliest and a latest
at : {t : InputTime} {x y : Float} {p r : Bool} → t ≡ Between x y → in_sixteenths x ≡ p → (p && in_sixteenths y) ≡ r → r
    ≡ time_in_sixteenths t
at {x = x} {y = y} e h k = sym (ap time_in_sixteenths e ∙ ap (λ (q : Bool). q && in_sixteenths y) h ∙ k)

pub in_sixteenths-requires : goal.in_sixteenths-requires
in_sixteenths-requires c = one c.requires c.in-Arrival.is

pub in_sixteenths-requires-in-Between : goal.in_sixteenths-requires-in-Between
in_sixteenths-requires-in-Between c = (two c.requires c.in-Between.is).0

pub returns-else-in_sixteenths : goal.returns-else-in_sixteenths
returns-else-in_sixteenths c =
    c.if-in_sixteenths.false ∙ at c.in-Between.is
    (sym c.in_sixteenths-in-Between.ensures ∙ c.if-in_sixteenths.false) refl

pub in_sixteenths-requires-then-in_sixteenths : goal.in_sixteenths-requires-then-in_sixteenths
in_sixteenths-requires-then-in_sixteenths c =
    (two c.requires
    c.in-Between.is).1

pub returns-then-in_sixteenths : goal.returns-then-in_sixteenths
returns-then-in_sixteenths c =
    at c.in-Between.is
    (sym c.in_sixteenths-in-Between.ensures ∙ c.if-in_sixteenths.true)
    (sym c.in_sixteenths-then-in_sixteenths.ensures)

pub returns-in-Arrival : goal.returns-in-Arrival
returns-in-Arrival c = c.in_sixteenths.ensures ∙ sym (ap time_in_sixteenths c.in-Arrival.is)
