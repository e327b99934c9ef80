-- `status_byte` meets its contract: n, the count, then zeros. Assumes nothing.
use mathlib.Core.Path.{sym, ap}
use mathlib.Core.List.{[], ◌∷◌}
use Prim.Native.Nat.{◌/◌}
use native.Mathlib.Omega.{arith}
use lib.ListN.{length, get_or-eq_default}
use Rattle.cards.specs.Stores.{status_byte}
use Rattle.cards.proofs.stores.status_byte.Goals as goal

pub returns-in-1 : goal.returns-in-1
returns-in-1 c = let a = c.args in sym (ap (status_byte a.n a.s.now) c.in-1.is)

pub returns-in_default : goal.returns-in_default
returns-in_default c =
    let a = c.args in
    sym (get_or-eq_default (a.n ∷ length a.s.now / 16 ∷ []) 0 {n = a.j} (omega arith))
