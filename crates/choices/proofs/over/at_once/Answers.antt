-- What the first candidate of an r answers is the best split of that r. Assumes nothing.
use Rattle.std.proofs.Common.{arith, ap}
use Rattle.best.specs.Answers.{answer_of}
use Rattle.choices.proofs.over.at_once.Goals as goal

pub returns-in-Some : goal.returns-in-Some
returns-in-Some c =
    let e = c.first_try.ensures _ _ (ap answer_of c.in-Some.is) in record {
      some = c.loop-r.auto.r;
      most = omega (arith, c.loop-r-test.true);
      answer = e.0;
      whole = e.1;
    }
