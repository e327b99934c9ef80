-- The loop keeps that the rows so far are assignments. Assumes nothing.
use mathlib.Core.Path.{sym}
use Prim.Native.Nat.{◌^◌}
use native.Mathlib.Omega.{arith}
use lib.Dec.{ltb}
use borrow.Author.Tests.{le-ltb}
use Rattle.bits.proofs.Below.{every_stop}
use Rattle.bits.proofs.Machine.{shl_one}
use Rattle.clauses.specs.Step.{row_at}
use Rattle.refuting.proofs.header.rows_below.Goals as goal

pub returns-then-end-two_at : goal.returns-then-end-two_at
returns-then-end-two_at c =
    sym (every_stop c.args.many (λ a. ltb (row_at c.args.c.now a) (2 ^ c.args.n)) c.loop-a.a (omega arith) (le-ltb (row_at c.args.c.now c.loop-a.a) (2 ^ c.args.n) (omega (arith, c.two_at.ensures.0, shl_one 64 c.args.n (omega (arith, c.requires.0))))))
