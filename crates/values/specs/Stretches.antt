-- A formula's values 256 assignments at a time.
use Rattle.std.specs.Prelude.{Bool, [], ◌∷◌, ℕ, zero, suc, ◌+◌, ◌*◌, get_or}
use Rattle.std.specs.Int.Bits.{bit_and, bit_or, bit_xor}
use Rattle.bits.specs.Numbers.{number}
use Rattle.values.specs.declared.stretches.Stretch.{Stretch}

-- word w of the values F has: those at the 64 assignments from 64 w on
abbrev pub word_of : (ℕ → Bool) → ℕ → ℕ
word_of F w = number 64 (λ i. F (64 * w + i))

-- the words from 4 w on, of words f 0, f 1, ..
abbrev pub four : (ℕ → ℕ) → ℕ → Stretch
four f w = record { words = f (4 * w + 0) ∷ f (4 * w + 1) ∷ f (4 * w + 2) ∷ f (4 * w + 3) ∷ [] }

-- stretch w of the values F has: those at the 256 assignments from 256 w on
unfoldable pub stretch_of : (ℕ → Bool) → ℕ → Stretch
stretch_of F w = four (word_of F) w

-- a stretch of four words alike
abbrev pub alike : ℕ → Stretch
alike x = record { words = x ∷ x ∷ x ∷ x ∷ [] }

-- word k of a stretch, from 3 on the last
abbrev pub word_in : Stretch → ℕ → ℕ
word_in v zero = get_or v.words 0 0
word_in v (suc zero) = get_or v.words 1 0
word_in v (suc (suc zero)) = get_or v.words 2 0
word_in v (suc (suc (suc k))) = get_or v.words 3 0

-- f of each word of a stretch
abbrev pub in_each : (ℕ → ℕ) → Stretch → Stretch
in_each f v = record { words = f (word_in v 0) ∷ f (word_in v 1) ∷ f (word_in v 2) ∷ f (word_in v 3) ∷ [] }

-- f of each word of a stretch and the one at its place in another
abbrev pub in_both : (ℕ → ℕ → ℕ) → Stretch → Stretch → Stretch
in_both f v x = record {
  words = f (word_in v 0) (word_in x 0) ∷ f (word_in v 1) (word_in x 1) ∷ f (word_in v 2) (word_in x 2)
      ∷ f (word_in v 3) (word_in x 3) ∷ [];
}

-- what the mark of a level makes of two stretches
abbrev pub joined_by : ℕ → Stretch → Stretch → Stretch
joined_by zero = in_both bit_and
joined_by (suc zero) = in_both bit_xor
joined_by (suc (suc k)) = in_both bit_or
