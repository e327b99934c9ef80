use Rattle.std.proofs.Common.{ℕ, ◌<◌}
use Rattle.known.specs.Notes.{of_pair, Dead, AllDead}
use Rattle.quick.proofs.dead.all_dead.Given as goal

abbrev pub invariant-loop-i : goal.invariant-loop-i
invariant-loop-i l = AllDead l.pairs l.i l.k

abbrev pub invariant-loop-j : goal.invariant-loop-j
invariant-loop-j l = (j : ℕ) → j < l.j → Dead (of_pair l.pairs l.i j) l.i j l.k
