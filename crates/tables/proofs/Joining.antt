-- Bytes side by side as a number: each adds its bits above those before it, and the bits from some place on are what a
-- shift leaves. Assumes nothing.
use mathlib.Core.Path.{◌≡◌, sym, ap, ap₂, ◌∙◌}
use mathlib.Core.Bool.{Bool, false}
use mathlib.Core.List.{List}
use Prim.Native.Nat.{ℕ, ◌+◌, ◌*◌, ◌/◌, ◌%◌, ◌^◌, ◌<◌, ◌≤◌}
use native.Mathlib.Decide.{dec_lt}
use native.Mathlib.Omega.{arith}
use lib.ListN.{length, get_or, get_or-eq_default}
use Rattle.bits.specs.Numbers.{bit, number}
use Rattle.bits.proofs.Building.{joined, joined_fits}
use Rattle.bits.proofs.Numbers.{number_lt, number_ext, number_bit, bit-number, bit-shr, bit_high, bit-zero}
use Rattle.bits.proofs.Sums.{number_append}
use Rattle.tables.specs.Table.{table_bit}

module _ (t : List ℕ) (a : ℕ) where
  -- the bits from byte a on
  abbrev f : ℕ → Bool
  f k = table_bit t (8 * a + k)

  -- one byte more
  module _ (i : ℕ) {r : ℕ} (l : i < 8) (small : get_or t (a + i) 0 < 2 ^ 8) (is : r ≡ number (8 * i) f) where
    byte : get_or t (a + i) 0 ≡ number 8 (λ j. f (8 * i + j))
    byte =
        sym (number_bit 8 (get_or t (a + i) 0) small)
        ∙ number_ext 8 (bit (get_or t (a + i) 0)) (λ j. f (8 * i + j)) (λ j h.
        let p : a + i ≡ (8 * a + (8 * i + j)) / 8 = omega arith in
        let q : j ≡ (8 * a + (8 * i + j)) % 8 = omega arith in
        ap₂ (λ (b k : ℕ). bit (get_or t b 0) k) p q)

    below : r < 2 ^ (8 * i)
    below = omega (arith, is, number_lt (8 * i) f)

    pub byte-joined : r + get_or t (a + i) 0 * 2 ^ (8 * i) % 2 ^ 64 ≡ number (8 * (i + 1)) f
    byte-joined =
        let e : 8 * i + 8 ≡ 8 * (i + 1) = omega arith in
        joined 64 8 (8 * i) (omega arith) below small ∙ ap₂ (λ (x y : ℕ). x + y * 2 ^ (8 * i)) is byte
        ∙ sym (number_append (8 * i) 8 f) ∙ ap (λ (m : ℕ). number m f) e

    pub byte_fits : r + get_or t (a + i) 0 * 2 ^ (8 * i) % 2 ^ 64 < 2 ^ 64
    byte_fits = joined_fits 64 8 (8 * i) (omega arith) below small

  -- shifted, of `count` bytes after which the table has no bit
  shifted : (count r s k : ℕ) → r ≡ number (8 * count) f → ((j : ℕ) → 8 * count ≤ j → j < 64 → f j ≡ false) → s + k < 64
      → bit (r / 2 ^ s) k ≡ f (s + k)
  shifted count r s k is none h =
      bit-shr r s k ∙ ap (λ (m : ℕ). bit m (s + k)) is ∙ elim (dec_lt (s + k) (8 * count)) [
        | yes l ↦ bit-number (8 * count) f (s + k) l
        | no l ↦ bit_high (number (8 * count) f) (8 * count) (s + k) (number_lt (8 * count) f) (omega arith)
            ∙ sym (none (s + k) (omega arith) h)
      ]

-- the bits from p on, of a short table and of a long one
pub stretch_short : (t : List ℕ) (p r k : ℕ) → p < 64 → r ≡ number (8 * length t) (λ j. table_bit t (8 * 0 + j)) → p % 64
    + k < 64
    → bit (r / 2 ^ (p % 64)) k ≡ table_bit t (p + k)
stretch_short t p r k l is h =
    let e : 8 * 0 + (p % 64 + k) ≡ p + k = omega arith in
    shifted t 0 (length t) r (p % 64) k is (λ j g m. ap (λ (b : ℕ). bit b ((8 * 0 + j) % 8))
    (get_or-eq_default t 0 {n = (8 * 0 + j) / 8} (omega arith)) ∙ bit-zero ((8 * 0 + j) % 8)) h
    ∙ ap (table_bit t) e

pub stretch_long : (t : List ℕ) (p r k : ℕ) → r ≡ number (8 * 8) (λ j. table_bit t (8 * (8 * (p / 64)) + j)) → p % 64 + k
    < 64 → bit (r / 2 ^ (p % 64)) k ≡ table_bit t (p + k)
stretch_long t p r k is h =
    let e : 8 * (8 * (p / 64)) + (p % 64 + k) ≡ p + k = omega arith in
    shifted t (8 * (p / 64)) 8 r (p % 64) k is (λ j g m. absurd (omega arith)) h ∙ ap (table_bit t) e
