-- The numbers that have bits at a set's members alone, as a word: with one position more they come twice, without it
-- and, if it is a member, with it. Assumes nothing.
use mathlib.Core.Path.{◌≡◌, refl, sym, ap, ap₂, ◌∙◌}
use mathlib.Core.Bool.{Bool, true, false, cond, not, ◌&&◌, ◌||◌}
use Prim.Native.Nat.{ℕ, suc, ◌+◌, ◌*◌, ◌/◌, ◌%◌, ◌^◌, ◌<◌, ◌≤◌}
use native.Mathlib.Nat.{pow-suc}
use native.Mathlib.Numerals.{add-one}
use native.Mathlib.Omega.{arith}
use lib.Bits.{bit_and}
use lib.Pow.{pow_pos, pow_mono, shl_exact}
use Rattle.bits.specs.Numbers.{bit, val, number}
use Rattle.bits.specs.Below.{every}
use Rattle.bits.specs.Sets.{word_positions, is_subset}
use Rattle.bits.proofs.Below.{every_at, every_all, every_ext}
use Rattle.bits.proofs.Numbers.{number_lt, number_ext, none-zero, bit_below, bit_top, bit_high}
use Rattle.bits.proofs.Machine.{shl_one}
use Rattle.bits.proofs.Building.{bit-digit}
use Rattle.bits.proofs.Sums.{number_append}

pub part_at : (p : ℕ) (s : ℕ → Bool) (k : ℕ) → is_subset p s k ≡ true → (j : ℕ) → j < p → bit k j ≡ true → s j ≡ true
unfolding is_subset
part_at p s k e j l q = sym (ap (λ (t : Bool). not t || s j) q) ∙ every_at p (λ j. not (bit k j) || s j) e j l

pub part_all : (p : ℕ) (s : ℕ → Bool) (k : ℕ) → ((j : ℕ) → j < p → bit k j ≡ true → s j ≡ true) → is_subset p s k ≡ true
unfolding is_subset
part_all p s k h = every_all p (λ j. not (bit k j) || s j) (λ j l. go (bit k j) (h j l))
  where
    go : {t : Bool} (u : Bool) → (u ≡ true → t ≡ true) → (not u || t) ≡ true
    go true f = f refl
    go false f = refl

module _ (p : ℕ) (s : ℕ → Bool) where
  -- one position more, which k has or has not; i is k below it
  step : (k i : ℕ) → ((j : ℕ) → j < p → bit k j ≡ bit i j) → (u : Bool) → bit k p ≡ u → is_subset (suc p) s k
      ≡ ((not u || s p) && is_subset p s i)
  unfolding is_subset
  step k i same u at =
      ap₂ (λ (t e : Bool). cond (not t || s p) e false) at
      (every_ext p _ (λ j. not (bit i j) || s j) (λ j l. ap (λ (t : Bool). not t || s j) (same j l)))
      ∙ both (not u || s p) (every p (λ j. not (bit i j) || s j))
    where
      both : (x y : Bool) → cond x y false ≡ (x && y)
      both true y = refl
      both false y = refl

  low : (k : ℕ) → k < 2 ^ p → is_subset (suc p) s k ≡ is_subset p s k
  low k h = step k k (λ j l. refl) false (bit_high k p p h (omega arith))

  high : (k : ℕ) → k < 2 ^ p → is_subset (suc p) s (2 ^ p + k) ≡ (s p && is_subset p s k)
  high k h =
      let e : 2 ^ p + k ≡ k + val true * 2 ^ p = omega arith in
      step (2 ^ p + k) k (λ j l. ap (λ (m : ℕ). bit m j) e ∙ bit_below k (val true) p j l) true
      (ap (λ (m : ℕ). bit m p) e ∙ bit_top k true p h)

  -- twice
  pub subsets_more : number (2 ^ (p + 1)) (is_subset (p + 1) s) ≡ number (2 ^ p) (is_subset p s)
      + number (2 ^ p) (is_subset p s) * val (s p) * 2 ^ (2 ^ p)
  subsets_more =
      let two : 2 ^ (p + 1) ≡ 2 ^ p + 2 ^ p = omega (arith, pow-suc 2 p, ap (λ (q : ℕ). 2 ^ q) (add-one p)) in
      ap₂ (λ (m q : ℕ). number m (is_subset q s)) two (add-one p) ∙ number_append (2 ^ p) (2 ^ p) (is_subset (suc p) s)
      ∙ ap₂ (λ (x y : ℕ). x + y * 2 ^ (2 ^ p)) (number_ext (2 ^ p) _ (is_subset p s) low)
      (number_ext (2 ^ p) _ (λ k. s p && is_subset p s k) high ∙ go (s p))
    where
      go : (t : Bool) → number (2 ^ p) (λ k. t && is_subset p s k) ≡ number (2 ^ p) (is_subset p s) * val t
      go true = omega arith
      go false = omega (arith, none-zero (2 ^ p))

-- one turn of the loop, in a word
module _ (m : ℕ) {j r : ℕ} (l : j < word_positions) (is : r ≡ number (2 ^ j) (is_subset j (bit m))) where
  abbrev again : ℕ
  again = r * bit_and (m / 2 ^ j) 1 * 2 ^ (1 * 2 ^ j % 2 ^ 64) % 2 ^ 64

  pub subsets_shift : 1 * 2 ^ j % 2 ^ 64 ≤ 32
  subsets_shift = omega (arith, shl_one 64 j (omega arith), pow_mono {i = j} {j = 5} (omega arith))

  again_is : again ≡ r * val (bit m j) * 2 ^ (2 ^ j)
  again_is =
      ap₂ (λ (d w : ℕ). r * d * 2 ^ w % 2 ^ 64) (bit-digit m j) (shl_one 64 j (omega arith))
      ∙ shl_exact (2 ^ j) (2 ^ j) 64 (small (bit m j)) (omega (arith, subsets_shift, shl_one 64 j (omega arith)))
    where
      small : (t : Bool) → r * val t < 2 ^ (2 ^ j)
      small true = omega (arith, is, number_lt (2 ^ j) (is_subset j (bit m)))
      small false = omega (arith, pow_pos (2 ^ j))

  pub subsets-turn : r + again ≡ number (2 ^ (j + 1)) (is_subset (j + 1) (bit m))
  subsets-turn = ap (λ (x : ℕ). r + x) again_is ∙ ap (λ (x : ℕ). x + x * val (bit m j) * 2 ^ (2 ^ j)) is
      ∙ sym (subsets_more j (bit m))

  pub subsets_fits : r + again < 2 ^ 64
  subsets_fits =
      omega (
        arith,
        subsets-turn,
        number_lt (2 ^ (j + 1)) (is_subset (j + 1) (bit m)),
        pow_mono {i = 2 ^ (j + 1)} {j = 64} (pow_mono {i = j + 1} {j = word_positions} (omega arith)),
      )

  pub subsets-once : r * bit_and (m / 2 ^ j) 1 < 2 ^ 64
  subsets-once = go (bit m j) (bit-digit m j)
    where
      go : (t : Bool) → bit_and (m / 2 ^ j) 1 ≡ val t → r * bit_and (m / 2 ^ j) 1 < 2 ^ 64
      go true e = omega (arith, ap (λ (d : ℕ). r * d) e, subsets_fits)
      go false e = omega (arith, ap (λ (d : ℕ). r * d) e, subsets_fits)
