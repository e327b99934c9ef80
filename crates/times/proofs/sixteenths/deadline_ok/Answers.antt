-- `deadline_ok` meets its contract: both ends, one after the other. Assumes nothing.
use Rattle.std.proofs.Common.{Bool, ◌&&◌, ℤ, pos, negsuc, sym, ap, ◌∙◌, to_z-of_z}
use lib.Signed.{le_z}
use Rattle.times.proofs.sixteenths.deadline_ok.Goals as goal

pub returns-then-deadline-geminus1048576 : goal.returns-then-deadline-geminus1048576
returns-then-deadline-geminus1048576 c =
    let e = to_z-of_z c.ranges.deadline in
    ap (λ (z : ℤ). le_z z (pos 1048576)) e
    ∙ sym (ap (λ (b : Bool). b && le_z c.args.deadline (pos 1048576))
    (ap (le_z (negsuc 1048575)) (sym e) ∙ c.if-deadline-geminus1048576.true))

pub returns-else-deadline-geminus1048576 : goal.returns-else-deadline-geminus1048576
returns-else-deadline-geminus1048576 c =
    let e = to_z-of_z c.ranges.deadline in
    c.if-deadline-geminus1048576.false
    ∙ sym (ap (λ (b : Bool). b && le_z c.args.deadline (pos 1048576))
    (ap (le_z (negsuc 1048575)) (sym e) ∙ c.if-deadline-geminus1048576.false))
