-- `inspect` meets its contract: the input is cut where its definition cuts it. Assumes nothing.
use mathlib.Core.Path.{sym, ◌∙◌}
use lib.Seq.{length-take-le}
use Rattle.programs.proofs.InspectProgram.{parted}
use Rattle.programs.proofs.inspect_program.inspect.Goals as goal

pub returns : goal.returns
returns c =
    c.check_sheet.ensures
    ∙ parted c.args.input.now c.byte_or_zero-n.result c.cut_at-start.result
    c.table_bytes.result
    c.cut_at-end.result c.byte_or_zero-n.ensures c.cut_at-start.ensures.2
    c.table_bytes.ensures c.cut_at-end.ensures.1 c.cut_at-end.ensures.2

pub slice_bounds-check_sheet-end : goal.slice_bounds-check_sheet-end
slice_bounds-check_sheet-end c = sym (length-take-le _ _ c.cut_at-end.ensures.0)
