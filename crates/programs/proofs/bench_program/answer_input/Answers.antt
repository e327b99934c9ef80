-- `answer_input` meets its contract: make is asked what the input asks, and its outcome is handed over with the number
-- in front. Assumes nothing.
use mathlib.Core.Path.{◌∙◌}
use Prim.Native.Nat.{◌-◌}
use native.Mathlib.Omega.{arith}
use lib.ListN.{length, length-set}
use borrow.Rule.Slice.PartMut.{put_mid, same_len_mid}
use Rattle.programs.proofs.BenchProgram.{within, handed}
use Rattle.programs.proofs.bench_program.answer_input.Goals as goal

pub returns : goal.returns
returns c =
    let a = c.args in
    handed a.input.now a.out.now a.work.now _ _ _ _ _ _ _ _ _ c.make_sheet-made.result c.requires.0 c.requires.1 c.clear.ensures
    c.clear-2.ensures c.byte_or_zero-n.ensures c.byte_or_zero-k.ensures
    c.cut_at-start.ensures.2 c.make_sheet-made.ensures c.number_of.ensures c.unwrap_or.ensures

pub shape_of-out : goal.shape_of-out
shape_of-out c =
    let o = c.clear.new.area in
    let ys = c.make_sheet-made.new.sheet in
    length-set (put_mid 1 (length o - 1) o ys) 0 c.number_of.result
    ∙ same_len_mid 1 (length o - 1) o ys c.out-2-1.given.0 ∙ c.out-1.given

pub overflow_add-result : goal.overflow_add-result
overflow_add-result c =
    let a = c.args in
    let o = c.clear.new.area in
    let ys = c.make_sheet-made.new.sheet in
    let long = length-set (put_mid 1 (length o - 1) o ys) 0 c.number_of.result
    ∙ same_len_mid 1 (length o - 1) o ys c.out-2-1.given.0 ∙ c.out-1.given in
    let made = handed a.input.now a.out.now a.work.now _ _ _ _ _ _ _ _ _ c.make_sheet-made.result c.requires.0 c.requires.1 c.clear.ensures
    c.clear-2.ensures c.byte_or_zero-n.ensures c.byte_or_zero-k.ensures
    c.cut_at-start.ensures.2 c.make_sheet-made.ensures c.number_of.ensures c.unwrap_or.ensures in
    omega (arith, within a.input.now made, long, c.requires.0)

pub overflow_mul-result : goal.overflow_mul-result
overflow_mul-result c = omega (arith, overflow_add-result c)
