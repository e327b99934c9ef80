-- A place below a number as an option, and back. Assumes nothing.
use Rattle.std.proofs.Common.{◌≡◌, ℕ, ◌<◌, ◌≤◌, Bool, true, false, cond, Option, Some, None, ap, refl, sym, ◌∙◌, subst, le_refl}
use borrow.Author.Tests.{lt-ltb, le-ltb, ltb-true, ltb-false}
use lib.Dec.{ltb}
use Rattle.bits.specs.Places.{found_below, place_or}

pub found_some : (m i : ℕ) → i < m → Some i ≡ found_below m i
found_some m i h = sym (ap (λ (b : Bool). cond b (Some i) None) (lt-ltb i m h))

pub found_none : (m i : ℕ) → m ≤ i → None ≡ found_below m i
found_none m i h = sym (ap (λ (b : Bool). cond b (Some i) None) (le-ltb i m h))

-- the first place, where a search came to i below m
pub found_at : (m i f : ℕ) → i < m → f ≡ i → Some i ≡ found_below m f
found_at m i f h e = found_some m i h ∙ ap (λ (j : ℕ). found_below m j) (sym e)

-- and where it came to m
pub not_found : (m f : ℕ) → f ≡ m → None ≡ found_below m f
not_found m f e = found_none m m (le_refl m) ∙ ap (λ (j : ℕ). found_below m j) (sym e)

-- what an option that was found says of the place
pub found_there : (m f i : ℕ) → found_below m f ≡ Some i → (f ≡ i) × (i < m)
found_there m f i e = go (ltb f m) refl e
  where
    go : (b : Bool) → ltb f m ≡ b → cond b (Some f) None ≡ Some i → (f ≡ i) × (i < m)
    go true q h = let s : f ≡ i = cc in (s, subst (λ (j : ℕ). j < m) s (ltb-true f m q))
    go false q h = cc

pub found_nowhere : (m f : ℕ) → found_below m f ≡ None → m ≤ f
found_nowhere m f e = go (ltb f m) refl e
  where
    go : (b : Bool) → ltb f m ≡ b → cond b (Some f) None ≡ None → m ≤ f
    go true q h = cc
    go false q h = ltb-false f m q
