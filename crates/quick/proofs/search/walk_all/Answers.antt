-- The loop keeps that no pair with more than k - i own inputs is possible, and what is known. Assumes nothing.
use mathlib.Core.Path.{sym, ap, ◌∙◌}
use Prim.Native.Nat.{◌^◌}
use native.Mathlib.Omega.{arith}
use Rattle.tables.specs.Table.{table_bit}
use Rattle.best.specs.Answers.{answer_of}
use Rattle.best.proofs.First.{yet_starts, yet_goes, yet_stops, yet_ends}
use Rattle.best.proofs.Best.{above_best}
use Rattle.quick.proofs.search.walk_all.Goals as goal

pub loop-i-init : goal.loop-i-init
loop-i-init c = (
  yet_starts,
  record {
    most = c.requires.n_le_most_inputs.0;
    first = c.requires.n_le_most_inputs.1;
    long = c.requires.n_le_most_inputs.2;
    learned = c.blank-notes.ensures c.args.n (2 ^ c.args.r) (table_bit c.args.t.now);
  },
)

pub with_own-requires : goal.with_own-requires
with_own-requires c =
    (c.loop-i.invariant.1, c.requires.bad_pairs, omega (arith, c.requires.n_le_most_inputs.3, c.loop-i-test.true))

pub returns-in-Some : goal.returns-in-Some
returns-in-Some c =
    let a = c.args in
    yet_stops c.loop-i.invariant.0
    (omega (arith, c.loop-i-test.true))
    (sym c.with_own.ensures.0 ∙ ap answer_of c.in-Some.is)
    ∙ above_best a.n a.r (table_bit a.t.now) a.k a.low c.requires.n_le_most_inputs.4

pub loop-i-preserved : goal.loop-i-preserved
loop-i-preserved c = (
  yet_goes c.loop-i.invariant.0
      (omega (arith, c.loop-i-test.true))
      (sym c.with_own.ensures.0 ∙ ap answer_of c.in_default.is),
  c.with_own.ensures.1,
)

pub returns : goal.returns
returns c =
    let a = c.args in
    yet_ends c.loop-i.invariant.0 (omega (arith, c.loop-i-test.false))
    ∙ above_best a.n a.r (table_bit a.t.now) a.k a.low c.requires.n_le_most_inputs.4
