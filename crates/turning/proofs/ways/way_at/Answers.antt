-- The orders as lists of places are those that the definition reads off numbers. Assumes nothing.
use mathlib.Core.Path.{◌≡◌, refl}
use mathlib.Core.Bool.{Bool}
use mathlib.Core.List.{List, []}
use Prim.Native.Nat.{ℕ, zero, suc, ◌<◌}
use native.Mathlib.Omega.{arith}
use lib.ListN.{get_or}
use Rattle.turning.specs.declared.ways.Way.{Way}
use Rattle.turning.specs.declared.ways.TheConstants.{ORDERS}
use Rattle.turning.specs.Listing.{way_at, orders, ordered}
use Rattle.turning.proofs.ways.way_at.Goals as goal

abbrev in_order : ℕ → List ℕ
in_order k = get_or ORDERS k []

abbrev placed : Bool → ℕ → List ℕ → Way
placed flip mask l = record { flip = flip; mask = mask; p0 = get_or l 0 0; p1 = get_or l 1 0; p2 = get_or l 2 0 }

same_order : (flip : Bool) (mask k : ℕ) → k < 6 → placed flip mask (in_order k) ≡ ordered flip mask (get_or orders k 0)
same_order flip mask zero h = refl
same_order flip mask (suc zero) h = refl
same_order flip mask (suc (suc zero)) h = refl
same_order flip mask (suc (suc (suc zero))) h = refl
same_order flip mask (suc (suc (suc (suc zero)))) h = refl
same_order flip mask (suc (suc (suc (suc (suc zero))))) h = refl
same_order flip mask (suc (suc (suc (suc (suc (suc k)))))) h = absurd (omega arith)

pub returns : goal.returns
unfolding way_at
returns c = same_order _ _ _ (omega arith)
