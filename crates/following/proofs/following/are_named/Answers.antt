-- The loop keeps that the literals so far are named. Assumes nothing.
use mathlib.Core.Path.{sym}
use native.Mathlib.Omega.{arith}
use Prim.Native.Nat.{◌/◌}
use Rattle.bits.proofs.Below.{every_stop}
use lib.Dec.{ltb}
use borrow.Author.Tests.{le-ltb}
use Rattle.clauses.specs.Step.{literal_at}
use Rattle.following.proofs.following.are_named.Goals as goal

pub returns-then-all-four_at : goal.returns-then-all-four_at
returns-then-all-four_at c =
    sym (every_stop c.args.many (λ k. ltb (literal_at c.args.c.now c.args.at k / 2) c.args.all) c.loop-k.k (omega arith) (le-ltb (literal_at c.args.c.now c.args.at c.loop-k.k / 2) c.args.all (omega (arith, c.four_at.ensures.0))))
