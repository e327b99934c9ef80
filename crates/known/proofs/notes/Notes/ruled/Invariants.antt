-- Until a note rules out, none is moved.
use Rattle.std.proofs.Common.{◌≡◌}
use Rattle.known.proofs.notes.Notes.ruled.Given as goal

abbrev pub invariant-loop-i : goal.invariant-loop-i
invariant-loop-i l = l.self ≡ l.fn.self
