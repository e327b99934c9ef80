-- `answer_input` meets its contract: the number, a space and the place are written over a cleared room. Assumes
-- nothing.
use mathlib.Core.Path.{◌≡◌, sym, ap, ◌∙◌}
use mathlib.Core.List.{List}
use Prim.Native.Nat.{ℕ, ◌+◌, ◌-◌}
use native.Mathlib.Omega.{arith}
use lib.ListN.{length, set, replicate, length-set}
use borrow.Author.Rules.{rules}
use borrow.Rule.Slice.PartMut.{same_len_mid}
use Rattle.refusals.specs.Results.{verdict_of}
use Rattle.programs.specs.InspectProgram.{most_written}
use Rattle.programs.proofs.InspectProgram.{at_most, number_fits, behind-number, place_fits, answered}
use Rattle.programs.proofs.inspect_program.answer_input.Goals as goal

cleared : (out room : List ℕ) → length out ≡ most_written → room ≡ replicate (length out) 0
    → room ≡ replicate most_written 0
cleared out room long q = q ∙ ap (λ (k : ℕ). replicate k 0) long

long_room : (out room : List ℕ) → length out ≡ most_written → room ≡ replicate (length out) 0
    → length room ≡ most_written
long_room out room long q = ap length (cleared out room long q)

pub write_decimal-number-requires : goal.write_decimal-number-requires
write_decimal-number-requires c =
    number_fits c.clear.new.area c.number_of.result (long_room _ _ c.requires c.clear.ensures) (search rules)

pub bounds-out-number : goal.bounds-out-number
bounds-out-number c =
    let b = behind-number c.clear.new.area c.number_of.result (long_room _ _ c.requires c.clear.ensures) (search rules) _ _
    c.write_decimal-number.ensures in
    omega (arith, b.0, b.1)

pub slice_bounds-write_decimal-count : goal.slice_bounds-write_decimal-count
slice_bounds-write_decimal-count c =
    let b = behind-number c.clear.new.area c.number_of.result (long_room _ _ c.requires c.clear.ensures) (search rules) _ _
    c.write_decimal-number.ensures in
    omega (arith, b.0, b.1, length-set c.write_decimal-number.new.out c.write_decimal-number.result 32)

pub slice_bounds-write_decimal-start : goal.slice_bounds-write_decimal-start
slice_bounds-write_decimal-start c =
    let b = behind-number c.clear.new.area c.number_of.result (long_room _ _ c.requires c.clear.ensures) (search rules) _ _
    c.write_decimal-number.ensures in
    omega (arith, b.0, b.1, length-set c.write_decimal-number.new.out c.write_decimal-number.result 32)

pub write_decimal-place-requires : goal.write_decimal-place-requires
write_decimal-place-requires c =
    place_fits c.clear.new.area c.number_of.result (long_room _ _ c.requires c.clear.ensures) (search rules)
    c.write_decimal-number.new.out c.write_decimal-number.result c.write_decimal-number.ensures c.place_of.result
    (search rules)

pub overflow_add-result-2 : goal.overflow_add-result-2
overflow_add-result-2 c =
    let b = behind-number c.clear.new.area c.number_of.result (long_room _ _ c.requires c.clear.ensures) (search rules) _ _
    c.write_decimal-number.ensures in
    omega (arith, b.0, c.write_decimal-place.ensures.0, at_most 19 c.place_of.result (search rules))

pub shape_of-out : goal.shape_of-out
shape_of-out c =
    let b = behind-number c.clear.new.area c.number_of.result (long_room _ _ c.requires c.clear.ensures) (search rules) _ _
    c.write_decimal-number.ensures in
    let r = c.write_decimal-number.result in
    let o = set c.write_decimal-number.new.out r 32 in
    same_len_mid (r + 1) (length o - (r + 1)) o c.write_decimal-place.new.out c.out-3-1.given.0
    ∙ length-set c.write_decimal-number.new.out r 32 ∙ b.1 ∙ sym c.requires

pub returns : goal.returns
returns c =
    answered c.clear.new.area c.number_of.result (long_room _ _ c.requires c.clear.ensures) (search rules)
    c.write_decimal-number.new.out
    c.write_decimal-number.result c.write_decimal-number.ensures c.args.input.now (verdict_of c.inspect-answer.result)
    c.place_of.result
    c.write_decimal-place.result c.write_decimal-place.new.out (cleared _ _ c.requires c.clear.ensures)
    c.inspect-answer.ensures
    c.number_of.ensures
    c.place_of.ensures c.write_decimal-place.ensures

pub overflow_add-number : goal.overflow_add-number
overflow_add-number c =
    let b = behind-number c.clear.new.area c.number_of.result (long_room _ _ c.requires c.clear.ensures) (search rules) _ _
    c.write_decimal-number.ensures in
    omega (arith, b.0)

pub overflow_add-result : goal.overflow_add-result
overflow_add-result c =
    let b = behind-number c.clear.new.area c.number_of.result (long_room _ _ c.requires c.clear.ensures) (search rules) _ _
    c.write_decimal-number.ensures in
    omega (arith, b.0)
