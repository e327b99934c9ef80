-- `input_sound` meets its contract: what is said is sound, and then a time is given or the input's bit is 0. Assumes
-- nothing.
use mathlib.Core.Path.{sym, ap, ap₂, ◌∙◌}
use mathlib.Core.Bool.{Bool, not, ◌&&◌, ◌||◌}
use Rattle.bits.specs.Numbers.{bit}
use Rattle.bits.proofs.Machine.{test_bit}
use Rattle.times.specs.InputTimes.{given, time_at}
use Rattle.settling.proofs.reading.input_sound.Goals as goal

pub returns-else-sound_time : goal.returns-else-sound_time
returns-else-sound_time c =
    let a = c.args in
    c.if-sound_time.false
    ∙ sym (ap (λ (t : Bool). t && (given (time_at a.times a.j) || not (bit a.read a.j)))
    (sym c.sound_time.ensures ∙ c.if-sound_time.false))

pub returns-then-is_given : goal.returns-then-is_given
returns-then-is_given c =
    let a = c.args in
    c.if-is_given.true
    ∙ sym (ap₂ (λ (t u : Bool). t && (u || not (bit a.read a.j)))
    (sym c.sound_time.ensures ∙ c.if-sound_time.true)
    (sym c.is_given.ensures ∙ c.if-is_given.true))

pub returns-else-is_given : goal.returns-else-is_given
returns-else-is_given c =
    let a = c.args in
    ap not (test_bit a.read a.j)
    ∙ sym (ap₂ (λ (t u : Bool). t && (u || not (bit a.read a.j)))
    (sym c.sound_time.ensures ∙ c.if-sound_time.true)
    (sym c.is_given.ensures ∙ c.if-is_given.false))
