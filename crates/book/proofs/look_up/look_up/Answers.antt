-- `look_up` reads the printed book. Assumes nothing.
use borrow.Author.Rules.{rules}
use Rattle.book.proofs.Printed.{book, printed}
use Rattle.book.proofs.look_up.look_up.Goals as goal

pub returns : goal.returns
unfolding book
returns c = printed c.args.table (search rules)
