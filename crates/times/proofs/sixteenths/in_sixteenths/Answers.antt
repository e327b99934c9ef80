-- `in_sixteenths` meets its contract: nothing is lost on the way to a whole number and back. Assumes nothing.
use Rattle.std.proofs.Common.{◌≡◌, true, T, sym, ap, ◌∙◌, subst}
use lib.Ieee.{Float, binary64, fits, of_bits}
use Rattle.times.specs.InputTimes.{in_range, plain_zero}
use Rattle.times.specs.Sixteenths.{in_sixteenths}
use Rattle.times.proofs.Counting.{Time, cuttable}
use Rattle.times.proofs.Telling.{zero_time_lem, same_sixteenths, test_is}
use Rattle.times.proofs.sixteenths.in_sixteenths.Goals as goal

plain_time : (x : Float) {y : Float} → T (fits binary64 x) → in_range x ≡ true → y ≡ plain_zero x → Time y
plain_time x f r e = subst Time (sym e) (zero_time_lem x f r)

pub truncating_f64_to_u64-requires : goal.truncating_f64_to_u64-requires
unfolding of_bits
truncating_f64_to_u64-requires c =
    let k = cuttable c.plain_zero-y.result (plain_time c.args.x (subst T (sym c.well_formed.0.1) tt) c.requires c.plain_zero-y.ensures) in
    record { lower_bound = k.0; upper_bound = k.1 }

pub returns : goal.returns
unfolding of_bits
returns c =
    test_is c.plain_zero-y.result (plain_time c.args.x (subst T (sym c.well_formed.0.1) tt) c.requires c.plain_zero-y.ensures)
    c.truncating_f64_to_u64.result c.nearest_u64_to_f64.result
    c.truncating_f64_to_u64.ensures c.nearest_u64_to_f64.ensures
    ∙ ap in_sixteenths c.plain_zero-y.ensures ∙ same_sixteenths c.args.x
