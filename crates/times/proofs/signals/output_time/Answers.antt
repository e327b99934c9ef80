-- `output_time` meets its contract. The loop's invariant: what is left gives the output's time. Assumes nothing.
use Rattle.std.proofs.Common.{ℕ, ◌+◌, List, get_or, set, sym, ap, ◌∙◌, subst, arith, length-set}
use lib.Ieee.{of_bits}
use Rattle.sheets.specs.Record.{byte_at, cell_of}
use Rattle.times.specs.InputTimes.{zero_time}
use Rattle.times.specs.Reading.{Timeable}
use Rattle.times.specs.Signals.{keeping, delayed, cell_time}
use Rattle.times.proofs.Passing.{written_at, passed_none, passed_more, passed_all}
use Rattle.times.proofs.signals.output_time.Goals as goal

pub loop-i-init : goal.loop-i-init
unfolding of_bits
loop-i-init c =
    let a = c.args in (
      c.requires.2,
      passed_none (keeping a.late) (delayed a.delay) a.e a.s.now a.m a.n zero_time
          (λ t. get_or a.inputs.times t zero_time),
    )

pub cell_time-time-requires : goal.cell_time-time-requires
cell_time-time-requires c = (
  subst (λ (r : List ℕ). Timeable c.args.e r) (sym c.record_of.ensures)
      (c.requires.0.reads c.loop-i.i (omega arith)),
  c.loop-i.invariant.0,
)

pub loop-i-preserved : goal.loop-i-preserved
loop-i-preserved c =
    let a = c.args in
    let l = c.loop-i.signals.times in
    let o = c.cell_time-time.result in
    let k = keeping a.late in
    let d = delayed a.delay in (
      length-set l (a.n + c.loop-i.i) o ∙ c.loop-i.invariant.0,
      passed_more k d a.e a.s.now a.m _ a.n c.loop-i.i c.loop-i.time o (λ h. get_or l h zero_time)
          (λ h. get_or (set l (a.n + c.loop-i.i) o) h zero_time) (omega arith)
          (c.cell_time-time.ensures ∙ ap (λ (b : List ℕ). cell_time k d (cell_of a.e (byte_at b)) (λ h. get_or l h zero_time))
          c.record_of.ensures)
          (λ h. written_at l (a.n + c.loop-i.i) o zero_time h
          (omega (arith, c.loop-i.invariant.0, c.requires.0.most, c.requires.1))) c.loop-i.invariant.1,
    )

pub returns : goal.returns
returns c =
    let a = c.args in
    sym (passed_all (keeping a.late) (delayed a.delay) a.e a.s.now a.m _ a.n c.loop-i.i
    c.loop-i.time (λ h. get_or c.loop-i.signals.times h zero_time) (omega arith) c.loop-i.invariant.1)
