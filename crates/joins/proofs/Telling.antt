-- What four columns tell of two inputs: at which value of the higher one its two columns are all that there are.
-- Assumes nothing.
use mathlib.Core.Path.{◌≡◌, refl, sym, ap, ap₂, ◌∙◌, subst}
use mathlib.Core.Logic.{◌⊎◌, inl, inr, ⊎_elim}
use mathlib.Core.Bool.{Bool, true, false, cond, ◌||◌}
use Rattle.std.proofs.Common.{Option, Some, None}
use Prim.Native.Nat.{ℕ, ◌+◌, ◌^◌, ◌<◌}
use native.Mathlib.Nat.{add-zero}
use native.Mathlib.Omega.{arith}
use lib.Dec.{eqb}
use borrow.Author.Tests.{eq-eqb, eqb-true, eqb-false}
use Rattle.bits.specs.Numbers.{bit}
use Rattle.bits.specs.Sets.{size, gather, spread}
use Rattle.bits.proofs.Bools.{clash, or_left, or_right}
use Rattle.bits.proofs.Spreading.{gather-spread, spread-zero}
use Rattle.trees.proofs.Two.{own_size}
use Rattle.columns.specs.declared.split.Split.{Split}
use Rattle.columns.specs.Reading.{Held, Within, alike, column_of}
use Rattle.columns.proofs.Reading.{within_spread, alike_column}
use Rattle.joins.specs.StandsFor.{StandsFor}
use Rattle.joins.specs.Left.{with_fixed, value_by, Valued}
use Rattle.joins.proofs.Columns.{col, stands_when, stands_covers}

either : (x y z : ℕ) → (eqb x y || eqb x z) ≡ true → (x ≡ y) ⊎ (x ≡ z)
either x y z e = go (eqb x y) refl e
  where
    go : (s : Bool) → eqb x y ≡ s → (s || eqb x z) ≡ true → (x ≡ y) ⊎ (x ≡ z)
    go true f e = inl (eqb-true x y f)
    go false f e = inr (eqb-true x z e)

neither : (x y z : ℕ) → (eqb x y || eqb x z) ≡ false → (x ≡ y) ⊎ (x ≡ z) → ⊥
neither x y z e = ⊎_elim (λ f. clash (or_left (eqb x y) (eqb x z) (eq-eqb x y f)) e)
    (λ f. clash (or_right (eqb x y) (eqb x z) (eq-eqb x z f)) e)

-- what the four tests tell
abbrev by : Bool → Bool → Bool → Bool → Option Bool
by s t u w = cond s (cond t (Some true) None) (cond u (cond w (Some false) None) None)

-- a test that is one of numbers tells what these tell
pub value_as : (same : ℕ → ℕ → Bool) (pt c : ℕ → ℕ)
    → ((k l : ℕ) → k < 4 → l < 4 → same (pt k) (pt l) ≡ eqb (c k) (c l))
    → value_by same (pt 0) (pt 1) (pt 2) (pt 3) ≡ value_by eqb (c 0) (c 1) (c 2) (c 3)
value_as same pt c is =
    ap₂ (λ (s t : Bool). by s t (or 3 0 1) (or 2 0 1)) (is 0 1 l0 l1)
    (ap₂ ◌||◌ (is 0 2 l0 l2) (is 0 3 l0 l3))
    ∙ ap₂ (by (eqb (c 0) (c 1)) (eqb (c 0) (c 2) || eqb (c 0) (c 3)))
    (ap₂ ◌||◌ (is 3 0 l3 l0) (is 3 1 l3 l1)) (ap₂ ◌||◌ (is 2 0 l2 l0) (is 2 1 l2 l1))
  where
    or : ℕ → ℕ → ℕ → Bool
    or k l m = same (pt k) (pt l) || same (pt k) (pt m)

    l0 : 0 < 4
    l0 = omega arith

    l1 : 1 < 4
    l1 = omega arith

    l2 : 2 < 4
    l2 = omega arith

    l3 : 3 < 4
    l3 = omega arith

module _ (s : Split) (h : Held s) (F : ℕ → Bool) (at i j : ℕ) (li : i < s.n) (lt : j < i)
    (is : (p : ℕ) → p < s.n → bit s.own p ≡ (eqb p j || eqb p i)) where
  abbrev left : ℕ → Bool
  left x = F (with_fixed s.n s.shared at x)

  abbrev a : ℕ
  a = col s h F at i j li lt is false false

  abbrev b : ℕ
  b = col s h F at i j li lt is true false

  abbrev c : ℕ
  c = col s h F at i j li lt is false true

  abbrev d : ℕ
  d = col s h F at i j li lt is true true

  abbrev Told : Option Bool → Type 0
  Told = Valued s.n left i j

  abbrev J : Bool → Type 0
  J = StandsFor s.n left i j

  -- of four columns, two are all
  at_low : J false → ((c ≡ a) ⊎ (c ≡ b)) × ((d ≡ a) ⊎ (d ≡ b))
  at_low w = let f = stands_covers s h F at i j li lt is false w in (f false, f true)

  at_high : J true → ((a ≡ c) ⊎ (a ≡ d)) × ((b ≡ c) ⊎ (b ≡ d))
  at_high w = let f = stands_covers s h F at i j li lt is true w in (f false, f true)

  low : (c ≡ a) ⊎ (c ≡ b) → (d ≡ a) ⊎ (d ≡ b) → J false
  low p q = stands_when s h F at i j li lt is false each
    where
      each : (u : Bool) → (col s h F at i j li lt is u true ≡ a) ⊎ (col s h F at i j li lt is u true ≡ b)
      each false = p
      each true = q

  high : (a ≡ c) ⊎ (a ≡ d) → a ≡ b → J true
  high p e = stands_when s h F at i j li lt is true each
    where
      each : (u : Bool) → (col s h F at i j li lt is u false ≡ c) ⊎ (col s h F at i j li lt is u false ≡ d)
      each false = p
      each true = ⊎_elim {C = (b ≡ c) ⊎ (b ≡ d)} (λ f. inl (sym e ∙ f)) (λ f. inr (sym e ∙ f)) p

  no_value : (J false → ⊥) → (J true → ⊥) → Told None
  no_value f g true = g
  no_value f g false = f

  pub told-value : Told (value_by eqb a b c d)
  told-value = go (eqb a b) (eqb a c || eqb a d) (eqb d a || eqb d b) (eqb c a || eqb c b) refl refl refl refl
    where
      -- where a and b differ, c and d can be all only if they are a and b
      both : (a ≡ b → ⊥) → J true → ((c ≡ a) ⊎ (c ≡ b)) × ((d ≡ a) ⊎ (d ≡ b))
      both ne w = let q = at_high w in
          ⊎_elim {C = ((c ≡ a) ⊎ (c ≡ b)) × ((d ≡ a) ⊎ (d ≡ b))}
          (λ e. (inl (sym e), ⊎_elim {C = (d ≡ a) ⊎ (d ≡ b)} (λ f. absurd (ne (e ∙ sym f))) (λ f. inr (sym f)) q.1))
          (λ e. (⊎_elim {C = (c ≡ a) ⊎ (c ≡ b)} (λ f. inr (sym f)) (λ f. absurd (ne (e ∙ sym f))) q.1, inl (sym e)))
          q.0

      go : (t u v w : Bool) → eqb a b ≡ t → (eqb a c || eqb a d) ≡ u → (eqb d a || eqb d b) ≡ v
          → (eqb c a || eqb c b) ≡ w → Told (by t u v w)
      go true true v w p q r z = high (either a c d q) (eqb-true a b p)
      go true false v w p q r z =
          let e = eqb-true a b p in
          no_value (λ y. neither a c d q (⊎_elim {C = (a ≡ c) ⊎ (a ≡ d)} (λ f. inl (sym f)) (λ f. inl (e ∙ sym f))
          (at_low y).0)) (λ y. neither a c d q (at_high y).0)
      go false u true true p q r z = low (either c a b z) (either d a b r)
      go false u true false p q r z =
          no_value (λ y. neither c a b z (at_low y).0) (λ y. neither c a b z (both (eqb-false a b p) y).0)
      go false u false w p q r z =
          no_value (λ y. neither d a b r (at_low y).1) (λ y. neither d a b r (both (eqb-false a b p) y).1)

  -- as the code asks: from the points that the two inputs make beside what is fixed
  module _ (within : Within s.n s.shared at) where
    abbrev n : ℕ
    n = s.n

    four : 2 ^ size n (bit s.own) ≡ 4
    four = ap (λ (m : ℕ). 2 ^ m) (own_size n i j s.own li (omega arith) is (λ e. omega arith))

    -- point k, and its column
    point : ℕ → ℕ
    point k = at + spread n (bit s.own) k

    points : (k l : ℕ) → k < 4 → l < 4 → alike n F s.free (point k) (point l)
        ≡ eqb (column_of s F (gather n (bit s.shared) at) k) (column_of s F (gather n (bit s.shared) at) l)
    unfolding point
    points k l p q =
        let p' : k < 2 ^ size n (bit s.own) = omega (arith, four) in
        let q' : l < 2 ^ size n (bit s.own) = omega (arith, four) in
        alike_column s h F at within (spread n (bit s.own) k) (spread n (bit s.own) l)
        (within_spread n s.own k p') (within_spread n s.own l q')
        ∙ ap₂ (λ (x y : ℕ). eqb (column_of s F (gather n (bit s.shared) at) x)
        (column_of s F (gather n (bit s.shared) at) y))
        (gather-spread n (bit s.own) k p') (gather-spread n (bit s.own) l q')

    pub valued : (v : Option Bool) (x y z : ℕ) → x ≡ spread n (bit s.own) 1 → y ≡ spread n (bit s.own) 2
        → z ≡ spread n (bit s.own) 3 → v ≡ value_by (alike n F s.free) at (at + x) (at + y) (at + z) → Told v
    unfolding point
    valued v x y z ex ey ez e = subst Told (sym (
        e ∙ ap₂ (λ (p q : ℕ). value_by (alike n F s.free) p (at + q) (at + y) (at + z)) zero_point ex
        ∙ ap₂ (λ (p q : ℕ). value_by (alike n F s.free) (point 0) (point 1) (at + p) (at + q)) ey ez
        ∙ value_as (alike n F s.free) point (column_of s F (gather n (bit s.shared) at)) points)) told-value
      where
        zero_point : at ≡ point 0
        zero_point = sym (ap (λ (m : ℕ). at + m) (spread-zero n (bit s.own)) ∙ add-zero at)
