-- A blank note rules out nothing. Assumes nothing.
use Rattle.std.proofs.lemmas.List.Elements.{All-replicate}
use Rattle.known.specs.Notes.{Rules}
use Rattle.known.proofs.Keeping.{rules_nothing}
use Rattle.known.proofs.notes.Notes.blank.Goals as goal

pub returns : goal.returns
returns c n m F = record { each = All-replicate (Rules n F m) 64 _ rules_nothing }
