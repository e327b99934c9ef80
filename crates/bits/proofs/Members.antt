-- The members of a set in order: each number below the size is one member's, and spreading over the members keeps sizes
-- and the order of masks. Assumes nothing.
use mathlib.Core.Path.{◌≡◌, refl, sym, ap, ap₂, ◌∙◌, subst, subst₂}
use mathlib.Core.Bool.{Bool, true, false, ◌&&◌}
use Prim.Native.Nat.{ℕ, zero, suc, ◌+◌, ◌*◌, ◌%◌, ◌^◌, ◌<◌, ◌≤◌}
use native.Mathlib.Nat.{not-suc-le-zero, mod-eq_of_lt, mod-lt, add-zero}
use native.Mathlib.Numerals.{add-one}
use native.Mathlib.Decide.{dec_lt}
use native.Mathlib.Omega.{arith}
use lib.Pow.{pow_pos}
use Rattle.bits.specs.Numbers.{bit, val, number}
use Rattle.bits.specs.Sets.{size, gather, spread}
use Rattle.bits.proofs.Bools.{clash, and_left}
use Rattle.bits.proofs.Numbers.{number_ext, number_bit, number-of, bit_below}
use Rattle.bits.proofs.Sizes.{size-lt, size_ext}
use Rattle.bits.proofs.Counting.{size_all}
use Rattle.bits.proofs.Spreading.{mod_more, gather-bit, bit-spread, spread-lt}

-- numbers with the same bits are the same
pub same_bits : (n x y : ℕ) → x < 2 ^ n → y < 2 ^ n → ((j : ℕ) → j < n → bit x j ≡ bit y j) → x ≡ y
same_bits n x y p q h = number-of n x (bit y) p h ∙ number_bit n y q

-- member number k of s
pub record Place (n : ℕ) (s : ℕ → Bool) (k : ℕ) : Type 0 where
  pub at : ℕ
  pub below : at < n
  pub member : s at ≡ true
  pub rank : size at s ≡ k

pub place : (n : ℕ) (s : ℕ → Bool) (k : ℕ) → k < size n s → Place n s k
unfolding size
place zero s k h = absurd (not-suc-le-zero h)
place (suc n) s k h = go (s n) refl (place n s k) h
  where
    go : (t : Bool) → s n ≡ t → (k < size n s → Place n s k) → k < size n s + val t → Place (suc n) s k
    go true e ih h = elim (dec_lt k (size n s)) [
      | yes l ↦ let w = ih l in record {
        at = w.at;
        below = omega (arith, w.below);
        member = w.member;
        rank = w.rank;
      }
      | no l ↦ record { at = n; below = omega arith; member = e; rank = omega arith }
    ]
    go false e ih h = let w = ih (omega arith) in record
        { at = w.at; below = omega (arith, w.below); member = w.member; rank = w.rank }

-- its bit, among those gathered
pub gather-place : (n : ℕ) (s : ℕ → Bool) (x k : ℕ) (w : Place n s k) → bit (gather n s x) k ≡ bit x w.at
gather-place n s x k w = ap (bit (gather n s x)) (sym w.rank) ∙ gather-bit n s x w.at w.below w.member

-- ---- sizes

size_within : (n : ℕ) (s : ℕ → Bool) (v : ℕ) → size n (λ j. s j && bit v (size j s)) ≡ size (size n s) (bit v)
unfolding size
size_within zero s v = refl
size_within (suc n) s v = go (s n) (size_within n s v)
  where
    go : (t : Bool) → size n (λ j. s j && bit v (size j s)) ≡ size (size n s) (bit v)
        → size n (λ j. s j && bit v (size j s)) + val (t && bit v (size n s)) ≡ size (size n s + val t) (bit v)
    go true ih = ap (λ (k : ℕ). k + val (bit v (size n s))) ih
        ∙ ap (λ (k : ℕ). size k (bit v)) (sym (add-one (size n s)))
    go false ih = omega (arith, ap (λ (k : ℕ). size k (bit v)) (add-zero (size n s)))

pub size-spread : (n : ℕ) (s : ℕ → Bool) (v : ℕ) → size n (bit (spread n s v)) ≡ size (size n s) (bit v)
size-spread n s v = size_ext n (bit (spread n s v)) (λ j. s j && bit v (size j s)) (λ j h. bit-spread n s v j h)
    ∙ size_within n s v

-- ---- the order of masks

-- spreading reads as many bits as there are members
pub spread_low : (n : ℕ) (s : ℕ → Bool) (v w : ℕ) → ((k : ℕ) → k < size n s → bit v k ≡ bit w k) → spread n s v
    ≡ spread n s w
unfolding spread
spread_low n s v w h = number_ext n (λ j. s j && bit v (size j s)) (λ j. s j && bit w (size j s))
    (λ j l. go j l (s j) refl)
  where
    go : (j : ℕ) → j < n → (t : Bool) → s j ≡ t → (t && bit v (size j s)) ≡ (t && bit w (size j s))
    go j l true e = h (size j s) (size-lt n s j l e)
    go j l false e = refl

-- a number is its top digit and the rest
top : (k v : ℕ) → v < 2 ^ (k + 1) → v % 2 ^ k + val (bit v k) * 2 ^ k ≡ v
top k v h = mod_more v k ∙ mod-eq_of_lt h

-- numbers compare by their top digits, then by the rest
digits : (p v w : ℕ) (s t : Bool) → v < p → w < p → v + val s * p ≤ w + val t * p → (x y q : ℕ) → x < q
    → (v ≤ w → x ≤ y) → x + val s * q ≤ y + val t * q
digits p v w true true hv hw h x y q l f = omega (arith, f (omega arith))
digits p v w true false hv hw h x y q l f = absurd (omega arith)
digits p v w false true hv hw h x y q l f = omega arith
digits p v w false false hv hw h x y q l f = omega (arith, f (omega arith))

pub spread_rises : (n : ℕ) (s : ℕ → Bool) (v w : ℕ) → v < 2 ^ size n s → w < 2 ^ size n s → v ≤ w → spread n s v
    ≤ spread n s w
unfolding spread number size
spread_rises zero s v w p q h = omega arith
spread_rises (suc n) s v w p q h = go (s n) (spread_rises n s) p q
  where
    k : ℕ
    k = size n s

    rest_of : (u : ℕ) → u < 2 ^ (k + 1) → spread n s (u % 2 ^ k) ≡ spread n s u
    rest_of u b = spread_low n s (u % 2 ^ k) u (λ j l. sym (bit_below (u % 2 ^ k) (val (bit u k)) k j l)
        ∙ ap (λ (m : ℕ). bit m j) (top k u b))

    go : (t : Bool) → ((v w : ℕ) → v < 2 ^ k → w < 2 ^ k → v ≤ w → spread n s v ≤ spread n s w)
        → v < 2 ^ (k + val t) → w < 2 ^ (k + val t)
        → spread n s v + val (t && bit v k) * 2 ^ n ≤ spread n s w + val (t && bit w k) * 2 ^ n
    go true ih p q =
        digits (2 ^ k) (v % 2 ^ k) (w % 2 ^ k) (bit v k) (bit w k) (mod-lt v (pow_pos k)) (mod-lt w (pow_pos k))
        (omega (arith, top k v p, top k w q))
        (spread n s v) (spread n s w) (2 ^ n) (spread-lt n s v)
        (λ l. subst₂ (λ (x y : ℕ). x ≤ y) (rest_of v p) (rest_of w q)
        (ih (v % 2 ^ k) (w % 2 ^ k) (mod-lt v (pow_pos k)) (mod-lt w (pow_pos k)) l))
    go false ih p q =
        omega (
          arith,
          ih v w (subst (λ (m : ℕ). v < 2 ^ m) (add-zero k) p) (subst (λ (m : ℕ). w < 2 ^ m) (add-zero k) q)
              h,
        )

-- ---- masks inside a set

pub spread_inside : (n : ℕ) (s : ℕ → Bool) (v j : ℕ) → j < n → bit (spread n s v) j ≡ true → s j ≡ true
spread_inside n s v j h e = and_left (s j) (bit v (size j s)) (sym (bit-spread n s v j h) ∙ e)

-- a mask of members is what its gathered bits spread to
pub inside_spread : (n : ℕ) (s : ℕ → Bool) (m : ℕ) → m < 2 ^ n → ((j : ℕ) → j < n → bit m j ≡ true → s j ≡ true)
    → spread n s (gather n s m) ≡ m
inside_spread n s m l h =
    same_bits n (spread n s (gather n s m)) m (spread-lt n s (gather n s m)) l
    (λ j b. bit-spread n s (gather n s m) j b ∙ go j b (s j) (bit m j) refl refl)
  where
    go : (j : ℕ) → j < n → (t u : Bool) → s j ≡ t → bit m j ≡ u → (t && bit (gather n s m) (size j s)) ≡ u
    go j b true u p q = gather-bit n s m j b p ∙ q
    go j b false true p q = absurd (clash (h j b q) p)
    go j b false false p q = refl

-- ---- where every position is a member

module _ (n : ℕ) (s : ℕ → Bool) (all : (j : ℕ) → j < n → s j ≡ true) where
  pub size_full : size n s ≡ n
  size_full = size_ext n s (λ j. true) all ∙ size_all n

  pub spread_full : (v : ℕ) → v < 2 ^ n → spread n s v ≡ v
  spread_full v h =
      same_bits n (spread n s v) v (spread-lt n s v) h (λ j b.
      bit-spread n s v j b
      ∙ ap₂ (λ (t : Bool) (q : ℕ). t && bit v q) (all j b)
      (size_ext j s (λ i. true) (λ i c. all i (omega arith)) ∙ size_all j))
