-- The number that falls at each call of the cycle: four for each nesting and for each byte that is left, and one for
-- each level above the factors.
use Rattle.std.proofs.Common.{◌+◌, ◌*◌, ◌-◌, length}
use Rattle.formulas.proofs.reading.Text.+reading.Given as goal

abbrev pub decreases-sum : goal.decreases-sum
decreases-sum l = 4 * (l.left + (length l.self.now.bytes.now - l.at)) + 3

abbrev pub decreases-term : goal.decreases-term
decreases-term l = 4 * (l.left + (length l.self.now.bytes.now - l.at)) + 2

abbrev pub decreases-part : goal.decreases-part
decreases-part l = 4 * (l.left + (length l.self.now.bytes.now - l.at)) + 1

abbrev pub decreases-factor : goal.decreases-factor
decreases-factor l = 4 * (l.left + (length l.self.now.bytes.now - l.at)) + 0
