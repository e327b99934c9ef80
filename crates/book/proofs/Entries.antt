-- An entry is the least number reachable, and two tables have the same one exactly when one can be turned into the
-- other. Assumes nothing.
use mathlib.Core.Path.{◌≡◌, sym, subst}
use mathlib.Core.Logic.{◌↔◌}
use mathlib.Core.Bool.{true}
use Prim.Native.Nat.{ℕ, ◌<◌}
use native.Mathlib.Decide.{dec_lt}
use native.Mathlib.Omega.{arith}
use borrow.Author.Tests.{ltb-true, lt-ltb}
use Rattle.bits.specs.Below.{least, IsLeast}
use Rattle.bits.proofs.Bools.{clash}
use Rattle.bits.proofs.Least.{is_least}
use Rattle.turning.specs.Ways.{Reachable, way_count}
use Rattle.turning.specs.Listing.{first_way}
use Rattle.book.specs.Book.{table_count, LeastReachable, entry}
use Rattle.turning.specs.Reach.{reaches}
use Rattle.turning.proofs.Listed.{some_way, reachable_by}
use Rattle.turning.proofs.Group.{reach_same, reach_back, reach_on}

pub reaches_exactly : (f g : ℕ) → (reaches f g ≡ true) ↔ Reachable f g
reaches_exactly f g = (
  λ h. reachable_by f g (ltb-true (first_way f g) way_count h),
  λ r. lt-ltb (first_way f g) way_count (some_way f g r),
)

pub entry-least : (f : ℕ) → f < table_count → LeastReachable f (entry f)
unfolding entry
entry-least f h = record {
  table = small;
  reachable = (reaches_exactly f (entry f)).0 (lies.here small);
  least = λ g l r. elim (dec_lt g (entry f)) [ yes b ↦ absurd (never g r b) | no b ↦ omega arith ];
}
  where
    lies : IsLeast table_count (reaches f) (entry f)
    lies = is_least table_count (reaches f)

    never : (g : ℕ) → Reachable f g → g < entry f → ⊥
    never g r b = clash ((reaches_exactly f g).1 r) (lies.before g b)

    small : entry f < table_count
    small = elim (dec_lt (entry f) table_count) [ yes b ↦ b | no b ↦ absurd (never f (reach_same f) (omega arith)) ]

pub least-once : {f a b : ℕ} → LeastReachable f a → LeastReachable f b → a ≡ b
least-once {f} {a} {b} u w = omega (arith, u.least b w.table w.reachable, w.least a u.table u.reachable)

-- what is least for one is least for all that it can be turned into
pub least_shared : {f g e : ℕ} → Reachable f g → LeastReachable f e → LeastReachable g e
least_shared r u = record {
  table = u.table;
  reachable = reach_on (reach_back r) u.reachable;
  least = λ h l s. u.least h l (reach_on r s);
}

pub same-entry : (f g : ℕ) → f < table_count → g < table_count → Reachable f g ↔ (entry f ≡ entry g)
same-entry f g h k = (
  λ r. least-once (least_shared r (entry-least f h)) (entry-least g k),
  λ e. reach_on (entry-least f h).reachable
      (subst (λ (m : ℕ). Reachable m g) (sym e) (reach_back (entry-least g k).reachable)),
)
