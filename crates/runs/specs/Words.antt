-- Tables 64 assignments at a time.
use Rattle.std.specs.Prelude.{Bool, ◌&&◌, List, ℕ, ◌+◌, ◌*◌, ◌^◌, ltb, get_or}
use Rattle.bits.specs.Numbers.{bit, number}
use Rattle.sheets.specs.declared.kinds.Edition.{Edition}
use Rattle.sheets.specs.Sheet.{sheet_bit}

-- word w of the table of a sheet of m records, spare bits zero
abbrev pub sheet_word : Edition → ℕ → List ℕ → ℕ → ℕ → ℕ
sheet_word e n s m w = number 64 (λ i. ltb (64 * w + i) (2 ^ n) && sheet_bit e n s m (64 * w + i))

-- the word of input j: its values at the 64 assignments from 64 w on
abbrev pub input_word : ℕ → ℕ → ℕ
input_word j w = number 64 (λ i. bit (64 * w + i) j)

-- the values of the signals at the i-th of 64 assignments, where signal s has the word at place s
abbrev pub lane : List ℕ → ℕ → ℕ → Bool
lane words i s = bit (get_or words s 0) i
