-- The cycle of calls {walk_shared}, whose position falls. Each way out is one law of a walk, at what `try_b` answers.
-- Assumes nothing.
use mathlib.Core.Path.{sym, ap, ◌∙◌}
use Prim.Native.Nat.{◌-◌}
use native.Mathlib.Omega.{arith}
use Rattle.bits.proofs.Machine.{bit-set, bit-clear}
use Rattle.tables.specs.Table.{table_bit}
use Rattle.best.specs.Answers.{answer_of}
use Rattle.best.proofs.Walks.{shared_tries, turn, walk_big, walk_leaf, walk_found, walk_next}
use Rattle.best.proofs.Walks.{walk_without, shared_out, shared_taken, try_b_own}
use Rattle.walks.proofs.Pruning.{mask_fits, shared_crowded, shared_passed}
use Rattle.walks.proofs.walk.+walk_shared.Goals as goal

-- k is above p
pub returns-then-k-p : goal.returns-then-k-p
returns-then-k-p t c =
    let a = c.args in (
      sym (walk_big (shared_tries a.n a.r (table_bit a.t.now) a.own) c.requires.shared_range.0.range a.k
          c.if-k-p.true),
      c.requires.known,
    )

-- the needed positions do not fit
pub returns-then-too_many : goal.returns-then-too_many
returns-then-too_many t c =
    let a = c.args in
    let h = c.requires.shared_range in (
      sym (shared_crowded a.n a.r (table_bit a.t.now) a.own a.need h.1 h.2 h.0 a.k
          (c.too_many.ensures c.if-too_many.true)),
      c.requires.known,
    )

-- one was passed over
pub returns-then-left-p-eq1 : goal.returns-then-left-p-eq1
returns-then-left-p-eq1 t c =
    let a = c.args in
    let h = c.requires.shared_range in (
      sym (shared_passed a.n a.r (table_bit a.t.now) a.own a.need h.1 h.2 h.0 a.k (omega arith)
          (bit-set _ a.p c.if-left-p-eq1.true)),
      c.requires.known,
    )

-- k is 0: the mask is made
pub returns-then-k-eq0 : goal.returns-then-k-eq0
returns-then-k-eq0 t c =
    let a = c.args in (
      c.try_pair.ensures.0
          ∙ sym (walk_leaf (shared_tries a.n a.r (table_bit a.t.now) a.own) c.requires.shared_range.0.range a.k
          c.if-k-eq0.true),
      c.try_pair.ensures.1,
    )

-- the numbers of a turn fit
pub overflow_add-taken : goal.overflow_add-taken
overflow_add-taken t c =
    record { fits = mask_fits (turn c.args.k c.requires.shared_range.0.range c.if-k-p.false c.if-k-eq0.false).taken }

-- the masks without the position: k is from 1 to p, and the highest open position is left out, then taken in
pub returns-in-Some : goal.returns-in-Some
returns-in-Some t c =
    let a = c.args in
    let w = c.requires.shared_range.0 in (
      sym (walk_found (shared_tries a.n a.r (table_bit a.t.now) a.own) w.range a.k
          (turn a.k w.range c.if-k-p.false c.if-k-eq0.false) _ _
          (sym c.walk_shared-without.ensures.0 ∙ ap answer_of c.in-Some.is)),
      c.walk_shared-without.ensures.1,
    )

-- the own mask has it, so that no other has
pub returns-then-own-j-eq1 : goal.returns-then-own-j-eq1
returns-then-own-j-eq1 t c =
    let a = c.args in
    let w = c.requires.shared_range.0 in
    let d = turn a.k w.range c.if-k-p.false c.if-k-eq0.false in (
      sym (walk_without (shared_tries a.n a.r (table_bit a.t.now) a.own) w.range a.k d
          (try_b_own a.n a.r (table_bit a.t.now) _ a.own (a.p - 1) d.inside
          (bit-set a.own (a.p - 1) c.if-own-j-eq1.true))
          (sym c.walk_shared-without.ensures.0 ∙ ap answer_of c.in_default.is)),
      c.walk_shared-without.ensures.1,
    )

-- the masks with the position
pub walk_shared-requires : goal.walk_shared-requires
walk_shared-requires t c =
    let h = c.requires.shared_range in
    let d = turn c.args.k h.0.range c.if-k-p.false c.if-k-eq0.false in
    let r = shared_taken h.0 d (bit-clear _ (c.args.p - 1) c.if-own-j-eq1.false) in
    (omega (arith, c.decreases, d.down), (c.walk_shared-without.ensures.1, (r, h.1, h.2)))

pub walk_shared-without-requires : goal.walk_shared-without-requires
walk_shared-without-requires t c =
    let h = c.requires.shared_range in
    let d = turn c.args.k h.0.range c.if-k-p.false c.if-k-eq0.false in
    (omega (arith, c.decreases, d.down), (c.requires.known, (shared_out h.0 d, h.1, h.2)))

pub returns : goal.returns
returns t c =
    let a = c.args in
    let w = c.requires.shared_range.0 in (
      c.walk_shared.ensures.0
          ∙ sym (walk_next (shared_tries a.n a.r (table_bit a.t.now) a.own) w.range a.k
          (turn a.k w.range c.if-k-p.false c.if-k-eq0.false)
          (sym c.walk_shared-without.ensures.0 ∙ ap answer_of c.in_default.is)),
      c.walk_shared.ensures.1,
    )
