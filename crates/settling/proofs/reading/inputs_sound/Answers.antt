-- `inputs_sound` meets its contract. The loop's invariant: each input passed is sound by the mask of the signals that
-- are read. Assumes nothing.
use mathlib.Core.Path.{◌≡◌, refl, sym, ap, ◌∙◌}
use mathlib.Core.Bool.{Bool, ◌&&◌, ◌||◌}
use mathlib.Core.List.{List}
use Prim.Native.Nat.{ℕ, ◌≤◌}
use native.Mathlib.Omega.{arith}
use Rattle.bits.specs.Below.{every}
use Rattle.bits.proofs.Below.{every_more, every_stop, every_ext}
use Rattle.tables.specs.Table.{most_inputs}
use Rattle.sheets.specs.declared.kinds.Edition.{Edition}
use Rattle.sheets.specs.Sheet.{sheet_cells}
use Rattle.times.specs.declared.input_time.InputTime.{InputTime}
use Rattle.times.specs.InputTimes.{sound_time, given, time_at}
use Rattle.unread.specs.declared.reading.Readers.{Readers}
use Rattle.unread.specs.ReadMasks.{read_mask}
use Rattle.unread.proofs.ReadMasks.{mask_none}
use Rattle.settling.specs.Refusals.{input_sound}
use Rattle.settling.proofs.reading.inputs_sound.Invariants.{by_mask}
use Rattle.settling.proofs.reading.inputs_sound.Goals as goal

-- by the mask or by the cells
same : (e : Edition) (n : ℕ) (s : List ℕ) (m : ℕ) (ts : List InputTime) (read : ℕ) → n ≤ most_inputs
    → read ≡ read_mask (sheet_cells e s m)
    → every n (by_mask read ts) ≡ every n (input_sound e s m ts)
same e n s m ts read h k =
    every_ext n (by_mask read ts) (input_sound e s m ts) (λ j l.
    ap (λ (t : Bool). sound_time (time_at ts j) && (given (time_at ts j) || t))
    (mask_none (sheet_cells e s m) j read (omega arith) k))

pub returns-then-not-input_sound : goal.returns-then-not-input_sound
returns-then-not-input_sound c =
    let a = c.args in
    sym (every_stop a.n (by_mask c.who_reads-read.result.read a.times) c.loop-j.j (omega arith)
    (sym c.input_sound.ensures ∙ c.if-not-input_sound.true)) ∙ same a.e a.n a.s.now a.m a.times c.who_reads-read.result.read c.requires.edition.2
    (ap (λ (r : Readers). r.read) c.who_reads-read.ensures)

pub loop-j-preserved : goal.loop-j-preserved
loop-j-preserved c =
    every_more c.loop-j.j (by_mask c.who_reads-read.result.read c.args.times) c.loop-j.invariant
    (sym c.input_sound.ensures ∙ c.if-not-input_sound.false)

pub returns : goal.returns
returns c =
    let a = c.args in
    let z : c.loop-j.j ≡ a.n = omega arith in
    sym c.loop-j.invariant ∙ ap (λ (k : ℕ). every k (by_mask c.who_reads-read.result.read a.times)) z ∙ same a.e a.n a.s.now a.m a.times c.who_reads-read.result.read c.requires.edition.2
    (ap (λ (r : Readers). r.read) c.who_reads-read.ensures)

pub loop-j-init : goal.loop-j-init
loop-j-init c = refl

pub input_sound-requires : goal.input_sound-requires
input_sound-requires c = omega (arith, c.requires.edition.2)
