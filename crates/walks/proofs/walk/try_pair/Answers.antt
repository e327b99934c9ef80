-- What is ruled out is not possible, and what is left is tested. Assumes nothing.
use mathlib.Core.Path.{sym}
use Rattle.tables.specs.Table.{table_bit}
use Rattle.known.proofs.Keeping.{skips_fails}
use Rattle.walks.proofs.Learning.{still_known}
use Rattle.walks.proofs.Pruning.{try_b_never}
use Rattle.walks.proofs.walk.try_pair.Goals as goal

pub returns-then-ruled : goal.returns-then-ruled
returns-then-ruled c =
    let a = c.args in (
      sym (try_b_never a.n a.r (table_bit a.t.now) _ a.own a.shared (λ z apart.
          skips_fails a.notes.now a.own a.shared c.requires.known.learned
          (c.ruled.ensures.skips c.if-ruled.true) apart)),
      still_known c.requires.known c.ruled.ensures.stays_learned,
    )

pub returns-then-learn : goal.returns-then-learn
returns-then-learn c =
    let a = c.args in
    let l = c.learn.ensures in (
      sym (try_b_never a.n a.r (table_bit a.t.now) _ a.own a.shared (λ z apart. l.0 c.if-learn.true)),
      l.1,
    )

pub attempt-requires : goal.attempt-requires
attempt-requires c =
    record { r_le_most_first = (c.requires.known.first, c.requires.known.long); n_le_most_inputs = (c.requires.known.most, c.requires.own_bound.0, c.requires.own_bound.1, c.requires.own_bound.2) }

pub learn-requires : goal.learn-requires
learn-requires c =
    record { known = still_known c.requires.known c.ruled.ensures.stays_learned; own_bound = c.requires.own_bound }

pub returns : goal.returns
returns c = (c.attempt.ensures, c.learn.ensures.1)
