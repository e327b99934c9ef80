-- `in_range` meets its contract: both comparisons, one after the other. Assumes nothing.
use Rattle.std.proofs.Common.{Bool, ◌&&◌, sym, ap, ◌∙◌}
use lib.Ieee.{le, of_bits}
use Rattle.times.specs.InputTimes.{most_time, in_range}
use Rattle.times.proofs.input_time.in_range.Goals as goal

pub returns-then-x : goal.returns-then-x
unfolding in_range of_bits
returns-then-x c = sym (ap (λ (b : Bool). b && le c.args.x most_time) c.if-x.true)

pub returns-else-x : goal.returns-else-x
unfolding in_range of_bits
returns-else-x c = c.if-x.false ∙ sym (ap (λ (b : Bool). b && le c.args.x most_time) c.if-x.false)
