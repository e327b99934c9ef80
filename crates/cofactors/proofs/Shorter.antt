-- The shorter of two lists of cells, and how the answer for any gate comes about. Assumes nothing.
use mathlib.Core.Path.{◌≡◌, refl, ap, ◌∙◌}
use mathlib.Core.Logic.{◌⊎◌, inl, inr}
use mathlib.Core.Bool.{Bool, true, false, cond}
use mathlib.Core.List.{List}
use Prim.Native.Nat.{ℕ, ◌<◌, ◌≤◌}
use native.Mathlib.Omega.{arith}
use lib.Dec.{leb}
use lib.ListN.{length}
use borrow.Author.Tests.{leb-true, leb-false}
use Rattle.sheets.specs.Edition.{most_records}
use Rattle.sheets.specs.Network.{Cell}
use Rattle.chains.specs.Chain.{Made, stuck, made}
use Rattle.cofactors.specs.Any.{Any, sheet, unsplit, overlong, shorter, either}

pub no_answer : {P : Type 0} {cs : List Cell} {a : Any} → a ≡ sheet cs → (a ≡ unsplit → P) × (a ≡ overlong → P)
no_answer p = (
  λ q. let z : ◌≡◌ {A = ℕ} 0 1 = cc in absurd (omega arith),
  λ q. let z : ◌≡◌ {A = ℕ} 0 1 = cc
      in absurd (omega arith),
)

pub not_stuck : {P : Type 0} {cs : List Cell} {x : Made} → x ≡ made cs → x ≡ stuck → P
not_stuck p q = let z : ◌≡◌ {A = ℕ} 0 1 = cc in absurd (omega arith)

-- ---- the one with fewer cells
module _ (x y : Made) where
  -- it is one of the two
  pub shorter-made : (cs : List Cell) → shorter x y ≡ made cs → (x ≡ made cs) ⊎ (y ≡ made cs)
  shorter-made cs e = go x y e
    where
      go : (x y : Made) → shorter x y ≡ made cs → (x ≡ made cs) ⊎ (y ≡ made cs)
      go stuck y e = inr e
      go (made xs) stuck e = inl e
      go (made xs) (made ys) e = pick (leb (length xs) (length ys)) e
        where
          pick : (t : Bool) → made (cond t xs ys) ≡ made cs → (made xs ≡ made cs) ⊎ (made ys ≡ made cs)
          pick true e = inl e
          pick false e = inr e

  -- where it has many cells and the second never has, there is no second
  pub shorter_long : (m : ℕ) (cs : List Cell) → shorter x y ≡ made cs → m < length cs
      → ((ds : List Cell) → y ≡ made ds → length ds ≤ m) → (x ≡ made cs) × (y ≡ stuck)
  shorter_long m cs e h few = go x y e few
    where
      go : (x y : Made) → shorter x y ≡ made cs → ((ds : List Cell) → y ≡ made ds → length ds ≤ m)
          → (x ≡ made cs) × (y ≡ stuck)
      go stuck stuck e f = not_stuck e refl
      go stuck (made ys) e f = let d : ys ≡ cs = cc in absurd (omega (arith, f ys refl, ap length d))
      go (made xs) stuck e f = (e, refl)
      go (made xs) (made ys) e f = absurd (pick (leb (length xs) (length ys)) refl e)
        where
          pick : (t : Bool) → leb (length xs) (length ys) ≡ t → made (cond t xs ys) ≡ made cs → ⊥
          pick true q e = let d : xs ≡ cs = cc in
              omega (arith, leb-true (length xs) (length ys) q, f ys refl, ap length d)
          pick false q e = let d : ys ≡ cs = cc in omega (arith, f ys refl, ap length d)

  -- it has no more cells than the second
  pub shorter_few : (ds : List Cell) → y ≡ made ds → (cs : List Cell) × (shorter x y ≡ made cs) × (length cs ≤ length ds)
  shorter_few ds e = go x
    where
      go : (x : Made) → (cs : List Cell) × (shorter x y ≡ made cs) × (length cs ≤ length ds)
      go stuck = (ds, e, omega arith)
      go (made xs) = pick (leb (length xs) (length ds)) refl
        where
          pick : (t : Bool) → leb (length xs) (length ds) ≡ t
              → (cs : List Cell) × (shorter (made xs) y ≡ made cs) × (length cs ≤ length ds)
          pick true q = (
            xs,
            ap (shorter (made xs)) e ∙ ap (λ (t : Bool). made (cond t xs ds)) q,
            leb-true (length xs) (length ds) q,
          )
          pick false q = (
            ds,
            ap (shorter (made xs)) e ∙ ap (λ (t : Bool). made (cond t xs ds)) q,
            omega arith,
          )

  pub shorter-none : shorter x y ≡ stuck → (x ≡ stuck) × (y ≡ stuck)
  shorter-none e = go x y e
    where
      go : (x y : Made) → shorter x y ≡ stuck → (x ≡ stuck) × (y ≡ stuck)
      go stuck y e = (refl, e)
      go (made xs) stuck e = not_stuck refl e
      go (made xs) (made ys) e = not_stuck refl e

-- ---- how an answer comes about, from what make's chain and the others make
module _ (one more : Made) where
  pub data Came : Any → Type 0 where
    by_make_lem : (cs : List Cell) → one ≡ made cs → Came (sheet cs)
    by_more : (cs : List Cell) → one ≡ stuck → more ≡ made cs → length cs ≤ most_records → Came (sheet cs)
    too_long_lem : (cs : List Cell) → one ≡ stuck → more ≡ made cs → most_records < length cs → Came overlong
    no_split : one ≡ stuck → more ≡ stuck → Came unsplit

pub came : (one more : Made) → Came one more (either one more)
came (made cs) x = by_make_lem cs refl
came stuck stuck = no_split refl refl
came stuck (made cs) = go (leb (length cs) most_records) refl
  where
    go : (t : Bool) → leb (length cs) most_records ≡ t → Came stuck (made cs) (cond t (sheet cs) overlong)
    go true q = by_more cs refl refl (leb-true (length cs) most_records q)
    go false q = too_long_lem cs refl refl (leb-false (length cs) most_records q)
