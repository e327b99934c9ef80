-- `cell_time` meets its contract. The loop's invariant: of the inputs passed the right time is kept. Assumes nothing.
use Rattle.std.proofs.Common.{◌≡◌, ℕ, ◌+◌, ◌-◌, get_or, sym, ap, ◌∙◌, ap₂, arith}
use lib.Ieee.{nan}
use Rattle.bits.proofs.Lists.{default}
use Rattle.sheets.specs.Record.{byte_at}
use Rattle.times.specs.InputTimes.{zero_time}
use Rattle.times.specs.Signals.{keeping, kept_time, delayed}
use Rattle.times.proofs.Passing.{kept_more, cell_at_lem}
use Rattle.times.proofs.signals.cell_time.Invariants.{time_here}
use Rattle.times.proofs.signals.cell_time.Goals as goal

pub loop-j-init : goal.loop-j-init
unfolding kept_time
loop-j-init c =
    let r = c.requires.0 in
    let l = c.args.signals.times in
    default l (byte_at c.args.b.now 1) nan zero_time (rw c.requires.1 (r.known 0 r.some))

pub loop-j-preserved : goal.loop-j-preserved
loop-j-preserved c =
    let r = c.requires.0 in
    let l = c.args.signals.times in
    let b = c.args.b.now in
    let j = c.loop-j.j in
    let here = default l (byte_at b (j + 1)) nan zero_time (rw c.requires.1 (r.known j (omega arith))) in
    (
    c.keep-time.ensures ∙ ap₂ (keeping c.args.late) c.loop-j.invariant here
    ∙ kept_more (keeping c.args.late) j (time_here l b) (omega arith)
    )

pub returns : goal.returns
returns c =
    let l = c.args.signals.times in
    let b = c.args.b.now in
    let z : c.loop-j.j ≡ byte_at b 0 = omega arith in
    ap (delayed c.args.delay) (c.loop-j.invariant
    ∙ ap (λ (k : ℕ). kept_time (keeping c.args.late) (time_here l b) (k - 1)) z)
    ∙ sym (cell_at_lem (keeping c.args.late) (delayed c.args.delay) c.args.e (byte_at b) (λ h. get_or l h zero_time)
    c.requires.0.some)
