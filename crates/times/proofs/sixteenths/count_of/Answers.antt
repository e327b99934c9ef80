-- `count_of` meets its contract: nothing is rounded on the way. Assumes nothing.
use Rattle.std.proofs.Common.{true, false, T, pos, sym, ap, ◌∙◌, subst, arith, lit<}
use lib.Ieee.{Float, fin, lt, of_bits, of_int, to_unsigned, binary64}
use Rattle.times.specs.Sixteenths.{sixteenths_of}
use Rattle.times.proofs.Counting.{mul16, cut, whole_value, read_back}
use Rattle.times.proofs.sixteenths.count_of.Goals as goal

pub truncating_f64_to_u64-requires : goal.truncating_f64_to_u64-requires
unfolding of_bits
truncating_f64_to_u64-requires c =
    let x = c.args.x in
    let i = sixteenths_of x in
    let k = subst (λ (y : Float). T (lt (fin true 1 (pos 0)) y) × T (lt y (fin false 1 (pos 64)))) (sym (mul16 x i c.requires.0))
    (cut (of_int binary64 (pos i)) i 1 (lit< tt) (omega (arith, c.requires.1)) (whole_value i c.requires.1)) in
    record { lower_bound = k.0; upper_bound = k.1 }

pub returns : goal.returns
unfolding of_bits
returns c =
    c.truncating_f64_to_u64.ensures ∙ ap (to_unsigned 64) (mul16 c.args.x (sixteenths_of c.args.x) c.requires.0)
    ∙ read_back (sixteenths_of c.args.x) c.requires.1
