-- `write_decimal` meets its contract: each way out is one law of digits. Assumes nothing.
use native.Mathlib.Omega.{arith}
use Rattle.programs.proofs.InspectProgram.{last_digit, one_longer, inside, next-digit}
use Rattle.programs.proofs.inspect_program.+write_decimal.Goals as goal

-- one digit

pub bounds-out-0 : goal.bounds-out-0
bounds-out-0 t c = (last_digit c.args.x c.args.out.now c.if-x-lt10.true c.requires).0

pub returns-then-x-lt10 : goal.returns-then-x-lt10
returns-then-x-lt10 t c = (last_digit c.args.x c.args.out.now c.if-x-lt10.true c.requires).1

-- those before the last

pub write_decimal-k-requires : goal.write_decimal-k-requires
write_decimal-k-requires t c =
    let l = one_longer c.args.x c.if-x-lt10.false in
    (omega arith, omega (arith, l))

-- the last

pub bounds-out-k : goal.bounds-out-k
bounds-out-k t c =
    inside c.args.x c.args.out.now _ _ c.if-x-lt10.false c.requires c.write_decimal-k.ensures

pub returns : goal.returns
returns t c = next-digit c.args.x c.args.out.now _ _ c.if-x-lt10.false c.requires c.write_decimal-k.ensures
