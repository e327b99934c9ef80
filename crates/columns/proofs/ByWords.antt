-- Columns compared word by word: a part of the free inputs is a part of those from position 6 on, which names a word,
-- and a part of those below, which names a place within it. Assumes nothing.
use mathlib.Core.Path.{◌≡◌, sym, ap, ◌∙◌}
use mathlib.Core.Bool.{Bool, true, false, ◌||◌}
use Prim.Native.Nat.{ℕ, ◌+◌, ◌-◌, ◌*◌, ◌/◌, ◌%◌, ◌^◌, ◌<◌, ◌≤◌}
use native.Mathlib.Nat.{mod-lt}
use native.Mathlib.Decide.{dec_lt}
use native.Mathlib.Omega.{arith}
use lib.Bits.{bit_and}
use lib.Dec.{lit<}
use lib.Pow.{pow-add, pow_pos}
use Rattle.bits.specs.Numbers.{bit}
use Rattle.bits.specs.Sets.{word_positions, is_subset, size, gather, spread}
use Rattle.bits.proofs.Below.{every_at, every_all}
use Rattle.bits.proofs.Bools.{clash, false_of, beq_same, same-beq}
use Rattle.bits.proofs.Machine.{part-spread, masked_bits, bits_masked}
use Rattle.bits.proofs.Numbers.{number_lt, number-mod, number_bit, bit-number, bit_below, bit-shr, bit-mod, bit_high}
use Rattle.bits.proofs.Numbers.{top_low, top_high}
use Rattle.bits.proofs.Spreading.{spread-lt, gather-lt}
use Rattle.bits.proofs.Subsets.{part_at, part_all}
use Rattle.bits.proofs.Sums.{number-join}
use Rattle.bits.proofs.Walking.{Walked}
use Rattle.tables.proofs.Pieces.{spread-part, above-part, above_whole}
use Rattle.columns.specs.ByWords.{high_part, low_places}
use Rattle.columns.specs.Reading.{Without, alike}
use Rattle.columns.proofs.Reading.{read_lt}

-- part v of the high members: it steps from word to word
abbrev pub step : ℕ → ℕ → ℕ → ℕ
step n L v = spread n (bit (high_part L)) v

-- two columns agree in word v
abbrev pub Even : ℕ → ℕ → (ℕ → Bool) → ℕ → ℕ → ℕ → Type 0
Even n L F x y v =
    (k : ℕ) → k < 64 → is_subset word_positions (bit L) k ≡ true → F (x + step n L v + k) ≡ F (y + step n L v + k)

module _ (n L : ℕ) (below : L < 2 ^ n) where
  -- with a place within the word it is a part of all
  module _ (v k : ℕ) (l : k < 64) (part : is_subset word_positions (bit L) k ≡ true) where
    z_part : (j : ℕ) → bit (step n L v + k) j ≡ true → bit L j ≡ true
    z_part j e = elim (dec_lt j word_positions) [
      | yes h ↦
          let q : step n L v + k ≡ k + step n L v / 64 * 2 ^ 6 = omega (arith, above_whole n L v) in
          part_at word_positions (bit L) k part j h (sym
          (ap (λ (m : ℕ). bit m j) q ∙ bit_below k (step n L v / 64) 6 j h) ∙ e)
      | no h ↦
          let q : (step n L v + k) / 64 ≡ step n L v / 64 = omega (arith, above_whole n L v) in
          let i : j ≡ 6 + (j - 6) = omega arith in
          above-part L j (spread-part n (high_part L) v j
          (ap (bit (step n L v)) i ∙ sym (bit-shr (step n L v) 6 (j - 6)) ∙ ap (λ (m : ℕ). bit m (j - 6)) (sym q)
          ∙ bit-shr (step n L v + k) 6 (j - 6) ∙ ap (bit (step n L v + k)) (sym i) ∙ e))
    ]

    whole : step n L v + k ≡ spread n (bit L) (gather n (bit L) (step n L v + k))
    whole = part-spread n (n + 6) (step n L v + k) L below
        (omega (arith, spread-lt n (bit (high_part L)) v, pow-add 2 n 6, pow_pos n)) (λ j h. z_part j)

  -- and every part of all is made so
  module _ (c : ℕ) where
    abbrev z : ℕ
    z = spread n (bit L) c

    abbrev word : ℕ
    word = gather n (bit (high_part L)) (high_part z)

    place-part : is_subset word_positions (bit L) (z % 64) ≡ true
    place-part = part_all word_positions (bit L) (z % 64)
        (λ j l e. spread-part n L c j (sym (bit-mod z word_positions j l) ∙ e))

    word_is : high_part z ≡ step n L word
    word_is =
        part-spread n n (high_part z) (high_part L) (omega (arith, below)) (omega (arith, spread-lt n (bit L) c))
        (λ j l e. elim (dec_lt j word_positions) [
          | yes h ↦ absurd (clash e (top_low z word_positions j h))
          | no h ↦
              let g : word_positions ≤ j = omega arith in
              top_high L word_positions j g ∙ spread-part n L c j (sym (top_high z word_positions j g) ∙ e)
        ])

    split : z ≡ step n L word + z % 64
    split = omega (arith, word_is)

  -- ---- two columns
  module _ (F : ℕ → Bool) (x y : ℕ) where
    pub alike_even : alike n F L x y ≡ true → (v : ℕ) → Even n L F x y v
    unfolding alike
    alike_even e v k l part =
        moved x ∙ beq_same _ _ (every_at (2 ^ size n (bit L)) _ e (gather n (bit L) (step n L v + k))
        (gather-lt n (bit L) (step n L v + k))) ∙ sym (moved y)
      where
        moved : (a : ℕ) → F (a + step n L v + k) ≡ F (a + spread n (bit L) (gather n (bit L) (step n L v + k)))
        moved a = ap F (omega (arith, whole v k l part))

    pub even_alike : ((v : ℕ) → v < 2 ^ size n (bit (high_part L)) → Even n L F x y v) → alike n F L x y ≡ true
    unfolding alike
    even_alike h = every_all (2 ^ size n (bit L)) _
        (λ c l. same-beq _ _ (moved c x ∙ h (word c) (gather-lt n (bit (high_part L)) _) (z c % 64)
        (mod-lt (z c) (lit< tt)) (place-part c) ∙ sym (moved c y)))
      where
        moved : (c a : ℕ) → F (a + z c) ≡ F (a + step n L (word c) + z c % 64)
        moved c a = ap F (omega (arith, split c))

  -- ---- the words that are read: f is part v of the high members
  module _ {many v f : ℕ} (walk : Walked n (high_part L) many f v) where
    at : f ≡ step n L v
    at = walk.at

    module _ {x : ℕ} (w : Without n L x) where
      pub word_lt : x + f < 2 ^ n
      word_lt =
          let clear : Without n (high_part L) x = record
          { below = w.below; clear = λ j l e. w.clear j l (above-part L j e) } in
          omega (arith, at, read_lt n (high_part L) x clear v)

      -- a place is within the word
      place_fits : (k : ℕ) → k < 64 → is_subset word_positions (bit L) k ≡ true → (x + f) % 64 + k < 64
      place_fits k l part =
          omega (
            arith,
            at,
            above_whole n L v,
            number-mod 6 x,
            number_bit 6 k l,
            number-join 6 (bit x) (bit k) apart,
            number_lt 6 (λ j. bit x j || bit k j),
          )
        where
          apart : (j : ℕ) → j < 6 → bit x j ≡ true → bit k j ≡ false
          apart j h e = false_of (bit k j) (λ q. elim (dec_lt j n) [
            | yes g ↦ clash e (w.clear j g (part_at word_positions (bit L) k part j h q))
            | no g ↦ clash e (bit_high x n j w.below (omega arith))
          ])

    -- a and b are the bits from x + f and from y + f on, as far as their words go
    module _ (F : ℕ → Bool) {x y low : ℕ} (a b : ℕ) (wx : Without n L x) (wy : Without n L y) (is : low ≡ low_places L)
        (at_x : (k : ℕ) → (x + f) % 64 + k < 64 → bit a k ≡ F (x + f + k))
        (at_y : (k : ℕ) → (y + f) % 64 + k < 64 → bit b k ≡ F (y + f + k)) where
      low_lt : low < 2 ^ 64
      unfolding low_places
      low_lt = omega (arith, is, number_lt 64 (is_subset word_positions (bit L)))

      low_bit : (k : ℕ) → k < 64 → bit low k ≡ is_subset word_positions (bit L) k
      unfolding low_places
      low_bit k l = ap (λ (m : ℕ). bit m k) is ∙ bit-number 64 (is_subset word_positions (bit L)) k l

      pub equal_even : bit_and a low ≡ bit_and b low → Even n L F x y v
      equal_even e k l part =
          let same : bit a k ≡ bit b k = masked_bits 64 low a b low_lt e k (low_bit k l ∙ part) in
          ap (λ (g : ℕ). F (x + g + k)) (sym at) ∙ sym (at_x k (place_fits wx k l part)) ∙ same
          ∙ at_y k (place_fits wy k l part) ∙ ap (λ (g : ℕ). F (y + g + k)) at

      pub even_equal : Even n L F x y v → bit_and a low ≡ bit_and b low
      even_equal h =
          bits_masked 64 low a b low_lt (λ k l e.
          let part : is_subset word_positions (bit L) k ≡ true = sym (low_bit k l) ∙ e in
          at_x k (place_fits wx k l part) ∙ ap (λ (g : ℕ). F (x + g + k)) at ∙ h k l part
          ∙ ap (λ (g : ℕ). F (y + g + k)) (sym at) ∙ sym (at_y k (place_fits wy k l part)))
