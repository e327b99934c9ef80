-- The loop's invariant: the choice is the best over fewer than r first cells, if it spares enough. Assumes nothing.
use native.Mathlib.Omega.{arith}
use Rattle.best.specs.Answers.{answer_of}
use Rattle.choices.proofs.Choosing.{chose_none, chose_below, found_below, chose_more, chose_all}
use Rattle.choices.proofs.over.find_sparing.Goals as goal

pub floor-requires : goal.floor-requires
floor-requires c =
    let p = c.requires in
    let b = chose_below c.loop-r.invariant in
    (p.0, omega (arith, p.1, c.loop-r-test.true), p.4, b.0, b.1)

pub find_above-found-requires : goal.find_above-found-requires
find_above-found-requires c =
    let p = c.requires in
    (p.0, omega (arith, p.1, c.loop-r-test.true), p.2, p.3, c.floor.ensures.least)

pub with_found-kept-requires : goal.with_found-kept-requires
with_found-kept-requires c =
    let w = c.loop-r.invariant in
    let p = c.requires in record {
      le_r = (w.some, omega (arith, p.1, c.loop-r-test.true), p.0, w.few);
      own_below = (
        (chose_below w).0,
        found_below w c.floor.result (answer_of c.find_above-found.result)
            c.find_above-found.ensures,
      );
    }

pub loop-r-preserved : goal.loop-r-preserved
loop-r-preserved c =
    chose_more c.loop-r.invariant c.floor.result (answer_of c.find_above-found.result) c.find_above-found.ensures
    c.floor.ensures
    c.with_found-kept.result (omega (arith, c.loop-r-test.true)) c.with_found-kept.ensures

pub loop-r-init : goal.loop-r-init
loop-r-init c = chose_none

pub returns : goal.returns
returns c =
    (chose_all c.loop-r.invariant (omega (arith, c.loop-r-test.false)), c.loop-r.invariant.few)
