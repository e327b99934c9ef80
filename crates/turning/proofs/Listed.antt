-- The listing has every way, each once, in their order: three tests over the whole listing. So the first way in the
-- listing is the first of all. Assumes nothing.
use mathlib.Core.Path.{◌≡◌, refl, sym, ap, ap₂, subst, ◌∙◌}
use mathlib.Core.Logic.{◌⊎◌, inl, inr}
use mathlib.Core.Bool.{Bool, true, false, not, ◌&&◌, ◌||◌, beq}
use Prim.Native.Nat.{ℕ, ◌+◌, ◌*◌, ◌<◌, ◌≤◌}
use native.Mathlib.Decide.{dec_lt}
use native.Mathlib.Omega.{arith}
use lib.Dec.{eqb, ltb}
use borrow.Author.Tests.{eq-eqb, ne_eqb, eqb-true, ltb-true}
use Rattle.bits.specs.Numbers.{val}
use Rattle.bits.specs.Below.{every, IsLeast}
use Rattle.bits.proofs.Bools.{clash, and_left, and_right, beq_same, same-beq}
use Rattle.bits.proofs.Below.{every_at, every_all}
use Rattle.bits.proofs.Least.{is_least}
use Rattle.bits.proofs.Numbers.{val-lt}
use Rattle.turning.specs.declared.ways.Way.{Way}
use Rattle.turning.specs.Ways.{place, IsWay, Turns, Reachable, before, FirstWay, way_count}
use Rattle.turning.specs.Listing.{way_at, agrees, turns, first_way}

-- the second of two tests, where the first fails
second : (s t : Bool) → (s || t) ≡ true → s ≡ false → t ≡ true
second true t h q = absurd (clash refl q)
second false t h q = h

-- ---- a way, as a test

abbrev inside : Way → ℕ → Bool
inside w j = ltb (place w j) 3

-- i and j are not at one place
abbrev told : Way → ℕ → ℕ → Bool
told w i j = not (eqb (place w i) (place w j)) || eqb i j

unfoldable pub is_way : Way → Bool
is_way w = ltb w.mask 8 && (every 3 (inside w) && every 3 (λ i. every 3 (told w i)))

pub way_holds : (w : Way) → is_way w ≡ true → IsWay w
unfolding is_way
way_holds w h =
    let r = and_right (ltb w.mask 8) _ h in
    let q = and_right (every 3 (inside w)) _ r in record {
      mask = ltb-true w.mask 8 (and_left (ltb w.mask 8) _ h);
      within = λ j l. ltb-true (place w j) 3 (every_at 3 (inside w) (and_left (every 3 (inside w)) _ r) j l);
      apart = λ i j k l e. eqb-true i j
          (second _ (eqb i j) (every_at 3 (told w i) (every_at 3 (λ i. every 3 (told w i)) q i k) j l)
          (ap not (eq-eqb (place w i) (place w j) e)));
    }

all_ways : every way_count (λ i. is_way (way_at i)) ≡ true
unfolding is_way way_at
all_ways = refl

pub way_at_lem : (i : ℕ) → i < way_count → IsWay (way_at i)
way_at_lem i h = way_holds (way_at i) (every_at way_count (λ i. is_way (way_at i)) all_ways i h)

-- ---- every way is listed

-- where
pub rank : Way → ℕ
rank w = val w.flip * 48 + w.mask * 6 + w.p0 * 2 + val (ltb w.p2 w.p1)

alike : Way → Way → Bool
alike v w =
    beq v.flip w.flip && (eqb v.mask w.mask
    && (eqb v.p0 w.p0 && (eqb v.p1 w.p1 && eqb v.p2 w.p2)))

abbrev make : Bool → ℕ → ℕ → ℕ → ℕ → Way
make s m a b c = record { flip = s; mask = m; p0 = a; p1 = b; p2 = c }

alike_same : (v w : Way) → alike v w ≡ true → v ≡ w
unfolding alike
alike_same v w h =
    let h₁ = and_right (beq v.flip w.flip) _ h in
    let h₂ = and_right (eqb v.mask w.mask) _ h₁ in
    let h₃ = and_right (eqb v.p0 w.p0) _ h₂ in
    ap₂ (λ (s : Bool) (m : ℕ). make s m v.p0 v.p1 v.p2) (beq_same _ _ (and_left _ _ h))
    (eqb-true _ _ (and_left _ _ h₁))
    ∙ ap₂ (λ (a b : ℕ). make w.flip w.mask a b v.p2) (eqb-true _ _ (and_left _ _ h₂))
    (eqb-true _ _ (and_left _ _ h₃))
    ∙ ap (make w.flip w.mask w.p0 w.p1) (eqb-true _ _ (and_right (eqb v.p1 w.p1) _ h₃))

filed : Bool → ℕ → ℕ → ℕ → ℕ → Bool
filed s m a b c = eqb a b || (eqb a c || (eqb b c || alike (way_at (rank (make s m a b c))) (make s m a b c)))

abbrev filing : Bool → ℕ → ℕ → Bool
filing s m a = every 3 (λ b. every 3 (filed s m a b))

all_filed : (s : Bool) → every 8 (λ m. every 3 (filing s m)) ≡ true
unfolding filed alike rank way_at
all_filed true = refl
all_filed false = refl

unlike : (w : Way) → IsWay w → (i j : ℕ) → i < j → j < 3 → eqb (place w i) (place w j) ≡ false
unlike w k i j l h = ne_eqb (place w i) (place w j) (λ e. let z = k.apart i j (omega arith) h e in omega arith)

pub listed : (w : Way) → IsWay w → way_at (rank w) ≡ w
unfolding filed
listed w k =
    let h = every_at 8 (λ m. every 3 (filing w.flip m)) (all_filed w.flip) w.mask k.mask in
    let h₀ = every_at 3 (filing w.flip w.mask) h w.p0 (k.within 0 (omega arith)) in
    let h₁ = every_at 3 (λ b. every 3 (filed w.flip w.mask w.p0 b)) h₀ w.p1 (k.within 1 (omega arith)) in
    let h₂ = every_at 3 (filed w.flip w.mask w.p0 w.p1) h₁ w.p2 (k.within 2 (omega arith)) in
    alike_same (way_at (rank w)) w
    (second _ _ (second _ _ (second _ _ h₂
    (unlike w k 0 1 (omega arith) (omega arith))) (unlike w k 0 2 (omega arith) (omega arith)))
    (unlike w k 1 2 (omega arith) (omega arith)))

pub rank_lt : (w : Way) → IsWay w → rank w < way_count
unfolding rank
rank_lt w k = omega (arith, val-lt w.flip, val-lt (ltb w.p2 w.p1), k.mask, k.within 0 (omega arith))

-- ---- in their order

abbrev all_before : ℕ → Bool
all_before j = every j (λ i. before (way_at i) (way_at j))

in_order_lem : every way_count all_before ≡ true
unfolding way_at
in_order_lem = refl

pub earlier : (i j : ℕ) → i < j → j < way_count → before (way_at i) (way_at j) ≡ true
earlier i j l h = every_at j (λ i. before (way_at i) (way_at j)) (every_at way_count all_before in_order_lem j h) i l

-- ---- the first that turns f into g

pub turns-holds : (w : Way) (f g : ℕ) → turns w f g ≡ true → Turns w f g
unfolding turns
turns-holds w f g h x l = beq_same _ _ (every_at 8 (agrees w f g) h x l)

pub turns_test : (w : Way) (f g : ℕ) → Turns w f g → turns w f g ≡ true
unfolding turns
turns_test w f g h = every_all 8 (agrees w f g) (λ x l. same-beq _ _ (h x l))

module _ (f g : ℕ) where
  test : ℕ → Bool
  test i = turns (way_at i) f g

  lies : IsLeast way_count test (first_way f g)
  unfolding first_way test
  lies = is_least way_count (λ i. turns (way_at i) f g)

  pub not_after : (v : Way) → IsWay v → Turns v f g → first_way f g ≤ rank v
  unfolding test
  not_after v k t =
      elim (dec_lt (rank v) (first_way f g)) [
        | yes l ↦ absurd (clash holds (lies.before (rank v) l))
        | no l ↦ omega arith
      ]
    where
      holds : test (rank v) ≡ true
      holds = turns_test (way_at (rank v)) f g (subst (λ (w : Way). Turns w f g) (sym (listed v k)) t)

  pub some_way : Reachable f g → first_way f g < way_count
  some_way r = omega (arith, not_after r.way r.is r.turns, rank_lt r.way r.is)

  pub first_way_lem : first_way f g < way_count → FirstWay f g (way_at (first_way f g))
  unfolding test
  first_way_lem h = record {
    is = way_at_lem (first_way f g) h;
    turns = turns-holds (way_at (first_way f g)) f g (lies.here h);
    first = λ v k t. go v k (not_after v k t);
  }
    where
      go : (v : Way) → IsWay v → first_way f g ≤ rank v
          → (v ≡ way_at (first_way f g)) ⊎ (before (way_at (first_way f g)) v ≡ true)
      go v k l = elim (dec_lt (first_way f g) (rank v)) [
        | yes b ↦ inr (subst (λ (w : Way). before (way_at (first_way f g)) w ≡ true) (listed v k)
            (earlier (first_way f g) (rank v) b (rank_lt v k)))
        | no b ↦ let e : rank v ≡ first_way f g = omega arith in inl (sym (listed v k) ∙ ap way_at e)
      ]

  pub reachable_by : first_way f g < way_count → Reachable f g
  reachable_by h = let w = first_way_lem h in record { way = way_at (first_way f g); is = w.is; turns = w.turns }
