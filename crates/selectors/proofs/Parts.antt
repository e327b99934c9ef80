-- A part of a table, of 2 ^ k bits, lies in whole words or within one. Assumes nothing.
use mathlib.Core.Path.{◌≡◌, sym, ap, ◌∙◌}
use mathlib.Core.Bool.{Bool, false, ◌&&◌}
use mathlib.Core.List.{List}
use Prim.Native.Nat.{ℕ, ◌+◌, ◌-◌, ◌*◌, ◌%◌, ◌^◌, ◌<◌, ◌≤◌}
use native.Mathlib.Decide.{dec_lt}
use native.Mathlib.Nat.{mul_assoc, suc-mul, mul-le-mul_right, mod-lt, mul-mod_left}
use native.Mathlib.Omega.{arith}
use lib.Dec.{ltb}
use lib.Pow.{pow-add, pow_pos, pow_mono, mod-pow-add, shl-shr}
use borrow.Author.Tests.{lt-ltb, le-ltb}
use Rattle.bits.specs.Numbers.{bit}
use Rattle.bits.proofs.Numbers.{number_ext, number-of, none-zero, bit-mod, bit_high}
use Rattle.tables.specs.Table.{table_bit}
use Rattle.tables.specs.Words.{gate_word}
use Rattle.selectors.specs.Standing.{part_bit}

-- past its end there is nothing
pub past_part : (k w : ℕ) (F : ℕ → Bool) → 2 ^ k ≤ 64 * w → gate_word k F w ≡ 0
past_part k w F h =
    number_ext 64 (λ i. ltb (64 * w + i) (2 ^ k) && F (64 * w + i)) (λ i. false)
    (λ i g. ap (λ (b : Bool). b && F (64 * w + i)) (le-ltb (64 * w + i) (2 ^ k) (omega arith))) ∙ none-zero 64

-- a word with the part's bits, and 0 past its end
word_is : (k w x : ℕ) (F : ℕ → Bool) → x < 2 ^ 64 → ((j : ℕ) → j < 64 → 64 * w + j < 2 ^ k → bit x j ≡ F (64 * w + j))
    → ((j : ℕ) → j < 64 → 2 ^ k ≤ 64 * w + j → bit x j ≡ false) → x ≡ gate_word k F w
word_is k w x F l in-it past =
    number-of 64 x (λ i. ltb (64 * w + i) (2 ^ k) && F (64 * w + i)) l (λ j h. elim (dec_lt (64 * w + j) (2 ^ k)) [
      | yes g ↦ in-it j h g ∙ sym (ap (λ (b : Bool). b && F (64 * w + j)) (lt-ltb (64 * w + j) (2 ^ k) g))
      | no g ↦ past j h (omega arith)
          ∙ sym (ap (λ (b : Bool). b && F (64 * w + j)) (le-ltb (64 * w + j) (2 ^ k) (omega arith)))
    ])

module _ (t : List ℕ) (k v w r : ℕ) (inside : 64 * w < 2 ^ k) (byte : r < 2 ^ 64)
    (bits : (j : ℕ) → (v * 2 ^ k + 64 * w) % 64 + j < 64 → bit r j ≡ table_bit t (v * 2 ^ k + 64 * w + j)) where
  at : (j : ℕ) → (v * 2 ^ k + 64 * w) % 64 + j < 64 → bit r j ≡ part_bit t k v (64 * w + j)
  at j h = bits j h ∙ ap (table_bit t) (let e : v * 2 ^ k + 64 * w + j ≡ v * 2 ^ k + (64 * w + j) = omega arith in e)

  -- with 64 bits or more it lies in whole words
  pub whole_word : 6 ≤ k → r ≡ gate_word k (part_bit t k v) w
  whole_word h =
      let m = 2 ^ (k - 6) in
      let e : (k - 6) + 6 ≡ k = omega arith in
      let p : 2 ^ k ≡ m * 64 = ap (λ (x : ℕ). 2 ^ x) (sym e) ∙ pow-add 2 (k - 6) 6 in
      let q : v * 2 ^ k ≡ v * m * 64 = ap (λ (x : ℕ). v * x) p ∙ sym (mul_assoc v m 64) in
      word_is k w r (part_bit t k v) byte (λ j l g. at j (omega arith)) (λ j l g. absurd (omega arith))

  -- with fewer in one
  pub part-word : k < 6 → r % 2 ^ (2 ^ k) ≡ gate_word k (part_bit t k v) w
  part-word h =
      let five : 2 ^ k ≤ 2 ^ 5 = pow_mono {i = k} {j = 5} (omega arith) in
      let z : w ≡ 0 = omega arith in
      let e : (6 - k) + k ≡ 6 = omega arith in
      let q : v * 2 ^ k % 64 ≡ (v % 2 ^ (6 - k)) * 2 ^ k + v * 2 ^ k % 2 ^ k =
      ap (λ (x : ℕ). v * 2 ^ k % 2 ^ x) (sym e) ∙ mod-pow-add (v * 2 ^ k) (6 - k) k
      ∙ ap (λ (x : ℕ). (x % 2 ^ (6 - k)) * 2 ^ k + v * 2 ^ k % 2 ^ k) (shl-shr v k) in
      let small = mod-lt v (pow_pos (6 - k)) in
      let room : (v % 2 ^ (6 - k)) * 2 ^ k + 2 ^ k ≤ 64 =
      omega (
        arith,
        suc-mul (v % 2 ^ (6 - k)) (2 ^ k),
        mul-le-mul_right (2 ^ k) small,
        pow-add 2 (6 - k) k,
        ap (λ (x : ℕ). 2 ^ x) e,
      ) in
      let none : v * 2 ^ k % 2 ^ k ≡ 0 = mul-mod_left v (2 ^ k) in
      let cut : 2 ^ (2 ^ k) ≤ 2 ^ 32 = pow_mono {i = 2 ^ k} {j = 32} five in
      let less : r % 2 ^ (2 ^ k) < 2 ^ (2 ^ k) = mod-lt r (pow_pos (2 ^ k)) in
      word_is k w (r % 2 ^ (2 ^ k)) (part_bit t k v) (omega arith)
      (λ j l g. bit-mod r (2 ^ k) j (omega arith) ∙ at j (omega arith))
      (λ j l g. bit_high (r % 2 ^ (2 ^ k)) (2 ^ k) j less (omega arith))
