-- The cycle of calls {walk_own}, whose position falls. Each way out is one law of a walk, at what `try_a` answers.
-- Assumes nothing.
use mathlib.Core.Path.{refl, sym, ap, ◌∙◌}
use native.Mathlib.Omega.{arith}
use Rattle.bits.specs.Numbers.{bit}
use Rattle.tables.specs.Table.{table_bit}
use Rattle.best.specs.Search.{try_b}
use Rattle.best.specs.Answers.{answer_of}
use Rattle.best.proofs.Tries.{try_a_is}
use Rattle.best.proofs.Walks.{own_tries, turn, walk_big, walk_leaf, walk_found, walk_next}
use Rattle.best.proofs.Walks.{shared_start, start_whole}
use Rattle.known.proofs.Keeping.{needs_part}
use Rattle.walks.proofs.Pruning.{mask_fits, left-outside, own_crowded, own_more}
use Rattle.walks.proofs.walk.+walk_own.Goals as goal

-- k is above p
pub returns-then-k-p : goal.returns-then-k-p
returns-then-k-p t c =
    let a = c.args in (
      sym (walk_big (own_tries a.n a.r (table_bit a.t.now) a.q) c.requires.range.0 a.k c.if-k-p.true),
      c.requires.known.0,
    )

-- the needed positions do not fit
pub overflow_add-q : goal.overflow_add-q
overflow_add-q t c =
    omega (arith, c.requires.range.2, c.requires.range.0.within, c.requires.range.0.most, c.if-k-p.false)

pub returns-then-too_many : goal.returns-then-too_many
returns-then-too_many t c =
    let a = c.args in
    let h = c.requires.range in (
      sym (own_crowded a.n a.r (table_bit a.t.now) a.need h.1 h.0 a.q a.k (c.too_many.ensures c.if-too_many.true)),
      c.requires.known.0,
    )

-- k is 0: the own mask is made, and the walk over its shared masks begins
pub walk_shared-requires : goal.walk_shared-requires
walk_shared-requires t c =
    let a = c.args in
    let h = c.requires.range in record {
      known = c.requires.known.0;
      shared_range = (
        shared_start h.0,
        needs_part (bit a.acc) a.need _ h.1,
        left-outside a.need a.acc (omega arith) (omega arith),
      );
    }

pub returns-then-k-eq0 : goal.returns-then-k-eq0
returns-then-k-eq0 t c =
    let a = c.args in (
      c.walk_shared.ensures.0 ∙ start_whole a.n a.q (λ q. try_b a.n a.r (table_bit a.t.now) q a.acc)
          ∙ sym (walk_leaf (own_tries a.n a.r (table_bit a.t.now) a.q) c.requires.range.0 a.k c.if-k-eq0.true
          ∙ try_a_is a.n a.r (table_bit a.t.now) _ a.q a.acc refl),
      c.walk_shared.ensures.1,
    )

-- the numbers of a turn fit
pub overflow_add-taken : goal.overflow_add-taken
overflow_add-taken t c =
    record { fits = mask_fits (turn c.args.k c.requires.range.0 c.if-k-p.false c.if-k-eq0.false).taken }

-- the masks without the position: k is from 1 to p, and the highest open position is left out, then taken in
pub walk_own-without-requires : goal.walk_own-without-requires
walk_own-without-requires t c =
    let h = c.requires.range in
    let d = turn c.args.k h.0 c.if-k-p.false c.if-k-eq0.false in
    (omega (arith, c.decreases, d.down), (c.requires.known, (d.out, h.1, h.2)))

pub returns-in-Some : goal.returns-in-Some
returns-in-Some t c =
    let a = c.args in
    let h = c.requires.range in (
      sym (walk_found (own_tries a.n a.r (table_bit a.t.now) a.q) h.0 a.k
          (turn a.k h.0 c.if-k-p.false c.if-k-eq0.false) _ _
          (sym c.walk_own-without.ensures.0 ∙ ap answer_of c.in-Some.is)),
      c.walk_own-without.ensures.1,
    )

-- the masks with the position, and what it needs
pub needed-more-requires : goal.needed-more-requires
needed-more-requires t c =
    let h = c.requires.range in
    let d = turn c.args.k h.0 c.if-k-p.false c.if-k-eq0.false in
    omega (arith, d.inside, h.0.most)

pub walk_own-requires : goal.walk_own-requires
walk_own-requires t c =
    let a = c.args in
    let h = c.requires.range in
    let d = turn a.k h.0 c.if-k-p.false c.if-k-eq0.false in
    let b = c.requires.known.1 in
    let w = own_more h.0 d a.pairs.now a.need _ b h.1 c.needed-more.ensures in
    (omega (arith, c.decreases, d.down), ((c.walk_own-without.ensures.1, b), (d.taken, w, h.2)))

pub returns : goal.returns
returns t c =
    let a = c.args in
    let h = c.requires.range in (
      c.walk_own.ensures.0
          ∙ sym (walk_next (own_tries a.n a.r (table_bit a.t.now) a.q) h.0 a.k
          (turn a.k h.0 c.if-k-p.false c.if-k-eq0.false)
          (sym c.walk_own-without.ensures.0 ∙ ap answer_of c.in_default.is)),
      c.walk_own.ensures.1,
    )
