-- `shows_many` meets its contract, by the law of many points. Assumes nothing.
use Rattle.std.proofs.Common.{arith, ltb-true}
use Rattle.tables.specs.Table.{table_bit}
use Rattle.witness.proofs.Many.{crowd_rule}
use Rattle.witness.proofs.crowd.shows_many.Goals as goal

pub returns-then-placed : goal.returns-then-placed
returns-then-placed c e =
    let w = c.placed.ensures c.if-placed.true in
    let a = c.args in
    crowd_rule (table_bit a.t.now) a.w.e a.w.f a.n w.2 w.3 a.m a.w.own a.w.base
    c.seen.result w.0 c.seen.ensures
    (omega (arith, c.members.ensures 16 (omega arith), ltb-true a.m c.members.result e))
