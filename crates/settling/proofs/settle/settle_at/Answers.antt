-- `settle_at` meets its contract: the signals start with the inputs' times. Assumes nothing.
use mathlib.Core.Path.{ap₂, ◌∙◌, fun_ext}
use native.Mathlib.Omega.{arith}
use Prim.Native.Nat.{ℕ}
use lib.Ieee.{Float}
use Rattle.sheets.specs.Sheet.{records, sheet_cells}
use Rattle.times.specs.InputTimes.{zero_time}
use Rattle.times.specs.Signals.{keeping, delayed, output_time, settled}
use Rattle.settling.proofs.settle.settle_at.Goals as goal

pub nonzero_div-m : goal.nonzero_div-m
nonzero_div-m c = omega (arith, c.requires.0.sound.ends, c.requires.0.sound.order)

pub output_time-requires : goal.output_time-requires
output_time-requires c = (c.requires.0, c.requires.1, c.times_of_inputs-inputs.ensures.0)

pub returns : goal.returns
unfolding settled
returns c =
    let a = c.args in
    c.output_time.ensures
    ∙ ap₂ (λ (d : Float) (v : ℕ → Float). output_time (keeping a.late) (delayed d) zero_time a.n
    (sheet_cells a.e a.s.now (records a.e a.s.now)) v)
    c.plain_zero.ensures (fun_ext c.times_of_inputs-inputs.ensures.1)
