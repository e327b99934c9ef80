-- A card: four desks of 256 bytes, one after another. A desk has 15 places for records, then one status record: the
-- open mark, n, the count of cells and 13 zero bytes.
use Rattle.std.specs.Prelude.{◌≡◌, List, ℕ, ◌+◌, ◌-◌, ◌*◌, ◌/◌, ◌<◌, length, get_or, take, drop}
use Rattle.sheets.specs.Edition.{record_size, most_records, most_desk}

-- how many desks a card has; they are counted from 1
abbrev pub desks : ℕ
desks = most_desk

-- the bytes of a desk's record places
abbrev pub place_bytes : ℕ
place_bytes = record_size * most_records

-- and of the desk, with its status record
abbrev pub desk_bytes : ℕ
desk_bytes = place_bytes + record_size

-- and of the card
abbrev pub card_bytes : ℕ
card_bytes = desk_bytes * desks

-- where desk d begins
abbrev pub base : ℕ → ℕ
base d = desk_bytes * (d - 1)

-- the desk to which byte a of a card belongs
abbrev pub holder : ℕ → ℕ
holder a = a / desk_bytes + 1

-- the bytes of desk d, and no other's
abbrev pub own_bytes : List ℕ → ℕ → List ℕ
own_bytes c d = take desk_bytes (drop (base d) c)

-- ---- what a desk's own bytes say

-- the open mark, which comes first in the status record
abbrev pub open_mark : List ℕ → ℕ
open_mark o = get_or o place_bytes 0

-- n, which comes next
abbrev pub inputs_on : List ℕ → ℕ
inputs_on o = get_or o (place_bytes + 1) 0

-- and the count of cells
abbrev pub count_on : List ℕ → ℕ
count_on o = get_or o (place_bytes + 2) 0

-- the sheet that it holds: as many records as the count says, from its first place on
abbrev pub sheet_on : List ℕ → List ℕ
sheet_on o = take (record_size * count_on o) o

-- two desks agree in what is used: mark, n, count, and the places that the count says are used
pub record SameUse (o p : List ℕ) : Type 0 where
  pub lengths : length o ≡ length p
  pub marks : open_mark o ≡ open_mark p
  pub ns : inputs_on o ≡ inputs_on p
  pub counts : count_on o ≡ count_on p
  pub used : (j : ℕ) → j < record_size * count_on o → j < place_bytes → get_or o j 0 ≡ get_or p j 0
