-- The number falls in the cycle of calls {write_decimal}. Assumes nothing.
use Rattle.programs.proofs.inspect_program.+write_decimal.Given as goal

abbrev pub decreases-write_decimal : goal.decreases-write_decimal
decreases-write_decimal l = l.x
