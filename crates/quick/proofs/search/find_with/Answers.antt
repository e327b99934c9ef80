-- The first candidate, or else the search of all: every split has more than r own inputs. Assumes nothing.
use mathlib.Core.Path.{sym, ap, ◌∙◌}
use Rattle.tables.specs.Table.{table_bit}
use Rattle.best.specs.Answers.{answer_of}
use Rattle.best.proofs.Best.{above_all}
use Rattle.quick.proofs.search.find_with.Goals as goal

pub returns-in-Some : goal.returns-in-Some
returns-in-Some c = sym (c.first_try.ensures _ _ (ap answer_of c.in-Some.is)).0

pub returns : goal.returns
returns c =
    let a = c.args in
    c.find_above.ensures ∙ above_all a.n a.r (table_bit a.t.now) a.k
