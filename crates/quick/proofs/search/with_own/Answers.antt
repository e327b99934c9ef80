-- The loop keeps that no pair with fewer than q shared inputs is possible, and what is known. Assumes nothing.
use mathlib.Core.Path.{◌≡◌, sym, ap, ◌∙◌}
use native.Mathlib.Omega.{arith}
use Rattle.bits.specs.Numbers.{bit}
use Rattle.tables.specs.Table.{table_bit}
use Rattle.best.specs.Search.{try_a, of_sizes}
use Rattle.best.specs.Answers.{answer_of}
use Rattle.best.proofs.First.{yet_starts, yet_goes, yet_stops, yet_ends}
use Rattle.best.proofs.Walks.{start, start_whole}
use Rattle.known.proofs.Keeping.{needs_none}
use Rattle.quick.proofs.search.with_own.Lts as lts
use Rattle.quick.proofs.search.with_own.Reads as reads
use Rattle.quick.proofs.search.with_own.Tie as tie
use Rattle.quick.proofs.search.with_own.Goals as goal

pub walk_own-requires : goal.walk_own-requires
walk_own-requires c =
    let l = c.loop-q in record {
      known = (l.invariant.1, c.requires.1);
      range = (
        start c.args.n c.requires.0.most,
        needs_none (bit 0),
        omega
            (arith, c.requires.2, c.loop-q-test.true),
      );
    }

-- what the walk answers
told : (c : lts.After-walk_own tie.the-claims reads.Pre reads.Post goal.the-invariant-loop-q goal.the-decreases-loop-q tie.handed_clauses)
    → let a = c.args in of_sizes a.n a.r (table_bit a.t.now) a.p c.loop-q.q
    ≡ answer_of c.walk_own.result
told c =
    let a = c.args in
    sym (start_whole a.n a.p (λ p. try_a a.n a.r (table_bit a.t.now) p
    c.loop-q.q)) ∙ sym c.walk_own.ensures.0

pub returns-in-Some : goal.returns-in-Some
returns-in-Some c = (
  yet_stops c.loop-q.invariant.0 (omega arith)
      (told c.before.before ∙ ap answer_of c.in-Some.is),
  c.walk_own.ensures.1,
)

pub loop-q-preserved : goal.loop-q-preserved
loop-q-preserved c = (
  yet_goes c.loop-q.invariant.0 (omega arith)
      (told c.before.before ∙ ap answer_of c.in_default.is),
  c.walk_own.ensures.1,
)

pub loop-q-init : goal.loop-q-init
loop-q-init c = (yet_starts, c.requires.0)

pub returns : goal.returns
returns c = let l = c.loop-q in (yet_ends l.invariant.0 (omega arith), l.invariant.1)
