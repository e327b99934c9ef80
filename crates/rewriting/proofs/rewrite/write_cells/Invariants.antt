use mathlib.Core.Path.{◌≡◌}
use mathlib.Core.List.{◌++◌}
use Prim.Native.Nat.{◌*◌}
use lib.ListN.{length, drop}
use Rattle.rewriting.specs.Rewrite.{rewritten}
use Rattle.rewriting.proofs.rewrite.write_cells.Given as goal

abbrev pub invariant-loop-i : goal.invariant-loop-i
invariant-loop-i l =
    (length l.room ≡ length l.initial.room)
    × (l.room ≡ rewritten l.e l.f l.d l.s l.i ++ drop (l.f.size * l.i) l.initial.room)
