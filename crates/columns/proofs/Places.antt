-- What it says of a place that it was found below a number, or not. Assumes nothing.
use Rattle.std.proofs.Common.{◌≡◌, ℕ, ◌<◌, ◌≤◌, Bool, true, false, not, cond, Option, Some, None, refl, sym}
use Rattle.std.specs.Option.{is_some}
use borrow.Author.Tests.{ltb-true, ltb-false}
use lib.Dec.{ltb}
use Rattle.bits.specs.Places.{found_below}

-- by cases of the test below it
by : Bool → ℕ → Option ℕ
by t i = cond t (Some i) None

some_by : (t : Bool) (i b : ℕ) → by t i ≡ Some b → (t ≡ true) × (b ≡ i)
unfolding by
some_by true i b e = (refl, cc)
some_by false i b e = cc

none_by : (t : Bool) (i : ℕ) → by t i ≡ None → t ≡ false
unfolding by
none_by true i e = cc
none_by false i e = refl

pub below_of_some : {m i b : ℕ} → found_below m i ≡ Some b → (i < m) × (b ≡ i)
unfolding by
below_of_some {m} {i} {b} e = let w = some_by (ltb i m) i b e in (ltb-true i m w.0, w.1)

pub above_of_none : {m i : ℕ} → found_below m i ≡ None → m ≤ i
unfolding by
above_of_none {m} {i} e = ltb-false i m (none_by (ltb i m) i e)

-- the same, of a place that is only asked for
pub below_of_no_none : {m i : ℕ} {o : Option ℕ} {none : Bool} → o ≡ found_below m i → is_some o ≡ not none → none ≡ false
    → i < m
below_of_no_none {m} {i} {o = Some b} {none} e s n = (below_of_some (sym e)).0
below_of_no_none {m} {i} {o = None} {none} e s n = cc

pub above_of_is_none : {m i : ℕ} {o : Option ℕ} {none : Bool} → o ≡ found_below m i → is_some o ≡ not none → none ≡ true
    → m ≤ i
above_of_is_none {m} {i} {o = Some b} {none} e s n = cc
above_of_is_none {m} {i} {o = None} {none} e s n = above_of_none (sym e)
