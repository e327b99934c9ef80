-- How the members of a mask are read by words of a table.
use Rattle.std.specs.Prelude.{ℕ, ◌*◌, ◌/◌, ◌^◌}
use Rattle.bits.specs.Numbers.{bit, number}
use Rattle.bits.specs.Sets.{word_positions, is_subset}

-- the members of a mask from position 6 on: their parts step from one word of a table to another
abbrev pub high_part : ℕ → ℕ
high_part L = L / 2 ^ word_positions * 2 ^ word_positions

-- and the places within a word that the members below 6 make
unfoldable pub low_places : ℕ → ℕ
low_places L = number (2 ^ word_positions) (is_subset word_positions (bit L))
