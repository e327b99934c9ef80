-- `main`: what is read and what is written are parts of their rooms. Assumes nothing.
use Rattle.programs.proofs.InspectProgram.{within}
use Rattle.inspect_main.proofs.main.Goals as goal

pub write_output-requires : goal.write_output-requires
write_output-requires c = within _ c.answer_input-count.ensures
