-- `open_causes` meets its contract: the cell itself, then the inputs, then the cells. Assumes nothing.
use Rattle.bits.specs.Lists.{byte_at}
use Rattle.clauses.specs.Step.{row_at}
use Rattle.following.proofs.Opening.{causes_are}
use Rattle.following.proofs.open.Reading.open_causes.Goals as goal

pub returns : goal.returns
returns c =
    causes_are (byte_at c.args.self.now.values.now) c.args.self.now.task.size (row_at c.args.self.now.task.certificate.now) c.args.i c.args.a c.args.b c.see_named-o.ensures c.open_inputs-o.ensures c.open_cells.ensures
