use mathlib.Core.Path.{◌≡◌}
use mathlib.Core.List.{List, ◌++◌}
use Prim.Native.Nat.{ℕ, ◌+◌, ◌*◌, ◌^◌}
use lib.Dec.{leb}
use Rattle.sheets.specs.Network.{Cell}
use Rattle.sheets.specs.Held.{cells_of}
use Rattle.cofactors.specs.Cofactors.{selecting, cells_each, join_of}
use Rattle.making.specs.Stage.{signals_of}
use Rattle.selectors.specs.Standing.{spaced, from}
use Rattle.selectors.proofs.select.level.Given as goal

-- a group
abbrev pub group_of : ℕ → ℕ → ℕ → List ℕ → ℕ → ℕ → ℕ → ℕ → List Cell
group_of k w next l at base step g = selecting (leb 3 k) w (next + cells_each (leb 3 k) * g) (from l at)
    (λ t. spaced base step (2 ^ w * g + t))

abbrev pub invariant-loop-g : goal.invariant-loop-g
invariant-loop-g l =
    (cells_of l.sheet ≡ cells_of l.s.sheet ++ join_of l.g (group_of l.k l.w l.s.next (signals_of l.l) l.s.at l.s.base l.s.step))
    × (l.sheet.count ≡ l.s.sheet.count + cells_each (leb 3 l.k) * l.g)
