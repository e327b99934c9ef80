-- `spare_ok` meets its contract: the law of spare bits, in the three places that w can have. Assumes nothing.
use mathlib.Core.Path.{sym}
use native.Mathlib.Omega.{arith}
use Rattle.sheets.proofs.Spares.{spare_all, spare_none, spare_shift}
use Rattle.records.proofs.rules.spare_ok.Goals as goal

pub returns-then-w-from : goal.returns-then-w-from
returns-then-w-from c = let a = c.args in sym (spare_all a.w a.m a.x (omega arith) (omega arith))

pub returns-then-left-ge8 : goal.returns-then-left-ge8
returns-then-left-ge8 c = let a = c.args in sym (spare_none a.w a.m a.x (omega arith))

pub returns : goal.returns
returns c = let a = c.args in sym (spare_shift a.w a.m a.x (omega arith))
