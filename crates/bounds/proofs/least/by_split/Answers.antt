-- `by_split` meets its contract: what find found, by the size of its own set. Assumes nothing.
use mathlib.Core.Path.{◌∙◌}
use native.Mathlib.Omega.{arith}
use Rattle.tables.specs.Table.{table_bit}
use Rattle.tables.proofs.Work.{half-holds}
use Rattle.bounds.proofs.Found.{own_few, fits, fits_not}
use Rattle.bounds.proofs.least.by_split.Goals as goal

pub search_counting-found-requires : goal.search_counting-found-requires
search_counting-found-requires c =
    let p = c.requires in (
      p.3,
      p.0,
      omega arith,
      omega (arith, p.0, p.2, p.5.few),
      omega (arith, p.3, p.4, half-holds c.args.n p.0),
      p.5,
    )

pub overflow_add-k : goal.overflow_add-k
overflow_add-k c =
    let a = c.args in
    let p = c.requires in
    let m = own_few a.n a.k a.counting.many (table_bit a.t.now) c.search_counting-found.result
    c.search_counting-found.ensures.1 _ _ c.own_in.ensures c.members.ensures in
    omega (arith, m, p.0, p.2, p.5.few)

pub returns-then-c-k : goal.returns-then-c-k
returns-then-c-k c =
    let a = c.args in (
      fits a.n a.k a.counting.many (table_bit a.t.now) c.search_counting-found.result
          c.search_counting-found.ensures.1 _ _ c.own_in.ensures c.members.ensures c.if-c-k.true,
      c.search_counting-found.ensures.2,
    )

pub by_reach-requires : goal.by_reach-requires
by_reach-requires c =
    let p = c.requires in
    (p.1, p.2, omega (arith, p.0, p.5.few))

pub returns : goal.returns
returns c =
    let a = c.args in (
      c.by_reach.ensures
          ∙ fits_not a.n a.k a.counting.many (table_bit a.t.now) c.search_counting-found.result
          c.search_counting-found.ensures.1 _ _ c.own_in.ensures
          c.members.ensures c.if-c-k.false,
      c.search_counting-found.ensures.2,
    )
