-- Gathering and spreading, position by position: where k members come before position j of the mask m, gathering takes
-- bit j to place k, and spreading bit k to place j. Assumes nothing.
use mathlib.Core.Path.{◌≡◌, refl, sym, ap, ap₂, ◌∙◌, subst}
use mathlib.Core.Bool.{Bool, true, false, ◌&&◌}
use Prim.Native.Nat.{ℕ, ◌+◌, ◌*◌, ◌/◌, ◌%◌, ◌^◌, ◌<◌, ◌≤◌}
use native.Mathlib.Nat.{le_refl}
use native.Mathlib.Omega.{arith}
use lib.Bits.{bit_and, and_zero_r}
use Rattle.bits.specs.Numbers.{bit, val, number}
use Rattle.bits.specs.Sets.{mask_width, size, gather, spread}
use Rattle.bits.proofs.Sizes.{size-le, size_more}
use Rattle.bits.proofs.Spreading.{gather-lt, gather_more, spread-lt, spread_more}
use Rattle.bits.proofs.Building.{bit-digit, added, added_fits}

module _ (m j : ℕ) where
  -- 1 where j is a member, else 0
  abbrev member : ℕ
  member = bit_and (m / 2 ^ j) 1

  digit : (x i : ℕ) → bit_and (x / 2 ^ i) member ≡ val (bit m j && bit x i)
  digit x i = ap (bit_and (x / 2 ^ i)) (bit-digit m j) ∙ go (bit m j)
    where
      go : (t : Bool) → bit_and (x / 2 ^ i) (val t) ≡ val (t && bit x i)
      go true = bit-digit x i
      go false = and_zero_r (x / 2 ^ i)

  module _ {k : ℕ} (count : k ≡ size j (bit m)) where
    pub count_more : k + member ≡ size (j + 1) (bit m)
    count_more = ap₂ ◌+◌ count (bit-digit m j) ∙ sym (size_more j (bit m))

    pub count_most : k + member ≤ j + 1
    count_most = omega (arith, count_more, size-le (j + 1) (bit m))

-- a number made of bits of x at the mask's members: at position j, after k members, bit `from j k` goes to place
-- `to j k`
pub record Packing (m x : ℕ) (P : ℕ → ℕ) (from to : ℕ → ℕ → ℕ) : Type 0 where
  pub none : P 0 ≡ 0
  pub near : (j k : ℕ) → k ≤ j → to j k ≤ j
  pub below : (j : ℕ) → P j < 2 ^ to j (size j (bit m))
  pub more : (j : ℕ) → let k = size j (bit m) in P (j + 1) ≡ P j + val (bit m j && bit x (from j k)) * 2 ^ to j k

pub gathering : (m x : ℕ) → Packing m x (λ j. gather j (bit m) x) (λ j k. j) (λ j k. k)
unfolding gather
gathering m x = record {
  none = refl;
  near = λ j k h. h;
  below = λ j. gather-lt j (bit m) x;
  more = λ j. gather_more j (bit m) x;
}

pub spreading : (m x : ℕ) → Packing m x (λ j. spread j (bit m) x) (λ j k. k) (λ j k. j)
unfolding spread number
spreading m x = record {
  none = refl;
  near = λ j k h. le_refl j;
  below = λ j. spread-lt j (bit m) x;
  more = λ j. spread_more j (bit m) x;
}

-- how far a loop over n positions is: r is made of those below j, k of them members
pub record Packed (n m : ℕ) (P : ℕ → ℕ) (r k j : ℕ) : Type 0 where
  pub within : j ≤ n
  pub few : k ≤ j
  pub count : k ≡ size j (bit m)
  pub made : r ≡ P j

module _ {m x : ℕ} {P : ℕ → ℕ} {from to : ℕ → ℕ → ℕ} (p : Packing m x P from to) (n : ℕ) where
  pub packed_none : Packed n m P 0 0 0
  unfolding size
  packed_none = record { within = omega arith; few = omega arith; count = refl; made = sym p.none }

  module _ {r k j : ℕ} (q : Packed n m P r k j) where
    under : r < 2 ^ to j k
    under = subst (λ (i : ℕ). r < 2 ^ to j i) (sym q.count) (omega (arith, q.made, p.below j))

    pub packed_all : n ≤ j → (r ≡ P n) × (r < 2 ^ to n (size n (bit m)))
    packed_all h =
        let e : j ≡ n = omega arith in
        let is : r ≡ P n = q.made ∙ ap P e in
        (is, omega (arith, p.below n))

    module _ (narrow : n ≤ mask_width) (inside : j < n) where
      abbrev one : Bool
      one = bit m j && bit x (from j k)

      place : to j k < 32
      place = omega (arith, p.near j k q.few)

      pub packed_fits : r + bit_and (x / 2 ^ from j k) (member m j) * 2 ^ to j k % 2 ^ 32 < 2 ^ 32
      packed_fits = added_fits 32 one place under (digit m j x (from j k))

      pub packed_more : Packed n m P (r + bit_and (x / 2 ^ from j k) (member m j) * 2 ^ to j k % 2 ^ 32) (k + member m j)
          (j + 1)
      packed_more = record {
        within = omega arith;
        few = count_most m j q.count;
        count = count_more m j q.count;
        made = added 32 one place under (digit m j x (from j k))
            ∙ ap₂ (λ (y i : ℕ). y + val (bit m j && bit x (from j i)) * 2 ^ to j i) q.made q.count
            ∙ sym (p.more j);
      }
