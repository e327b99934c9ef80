use mathlib.Core.Path.{◌≡◌}
use mathlib.Core.List.{◌++◌}
use Prim.Native.Nat.{ℕ, ◌*◌}
use lib.ListN.{length, get_or, drop}
use Rattle.sheets.specs.declared.kinds.Sheet.{Sheet}
use Rattle.sheets.specs.Network.{Cell}
use Rattle.bits.specs.Lists.{list_of}
use Rattle.sheets.specs.Writing.{sheet_bytes}
use Rattle.sheets.specs.Held.{no_cell, network_cell}
use Rattle.sheets.proofs.writing.put_all.Given as goal

abbrev pub at : Sheet → ℕ → Cell
at s h = network_cell (get_or s.cells h no_cell)

abbrev pub invariant-loop-i : goal.invariant-loop-i
invariant-loop-i l =
    (length l.out ≡ length l.initial.out)
    × (l.out ≡ sheet_bytes l.e l.d (list_of l.i (at l.sheet)) ++ drop (l.e.size * l.i) l.initial.out)
