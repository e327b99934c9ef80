-- What the code holds while it reads the columns of a split.
use Rattle.std.specs.Prelude.{◌≡◌, Bool, true, false, List, map, ℕ, ◌+◌, ◌*◌, ◌^◌, ◌<◌, ◌≤◌, length, get_or, take}
use Rattle.std.specs.Bool.{beq}
use Rattle.bits.specs.Numbers.{bit, number}
use Rattle.bits.specs.Sets.{rest, Apart, size, gather, spread}
use Rattle.bits.specs.Below.{every}
use Rattle.tables.specs.Table.{most_inputs}
use Rattle.columns.specs.ByWords.{high_part, low_places}
use Rattle.columns.specs.declared.split.Split.{Split}
use Rattle.splits.specs.Split.{reads_d, reads_h}
use Rattle.splits.specs.Columns.{column, columns}

-- a split of masks: the free mask follows from the two, and how the free inputs are read by words follows from it
pub record Held (s : Split) : Type 0 where
  pub most : s.n ≤ most_inputs
  pub below_a : s.own < 2 ^ s.n
  pub below_b : s.shared < 2 ^ s.n
  pub apart : Apart s.n (bit s.own) (bit s.shared)
  pub free : s.free ≡ number s.n (rest (bit s.own) (bit s.shared))
  pub words : s.words ≡ 2 ^ size s.n (bit (high_part s.free))
  pub low : s.low ≡ low_places s.free

-- F reads the same at x and at y, with each part of the mask L added
unfoldable pub alike : ℕ → (ℕ → Bool) → ℕ → ℕ → ℕ → Bool
alike n F L x y = every (2 ^ size n (bit L)) (λ c. beq (F (x + spread n (bit L) c)) (F (y + spread n (bit L) c)))

-- x has no position of L
pub record Without (n L x : ℕ) : Type 0 where
  pub below : x < 2 ^ n
  pub clear : (j : ℕ) → j < n → bit L j ≡ true → bit x j ≡ false

-- x has bits at the members of the mask alone
abbrev pub Within : ℕ → ℕ → ℕ → Type 0
Within n m x = x ≡ spread n (bit m) (gather n (bit m) x)

-- what the first cells of a split of masks read
abbrev pub first_reads : Split → ℕ → Bool
first_reads s = reads_d (bit s.own) (bit s.shared)

-- what H reads besides their outputs
abbrev pub last_reads : Split → ℕ → Bool
last_reads s = reads_h (bit s.own) (bit s.shared)

-- what x has at the own inputs, read in increasing position
abbrev pub own_part : Split → ℕ → ℕ
own_part s x = gather s.n (bit s.own) x

-- and at the shared ones
abbrev pub shared_part : Split → ℕ → ℕ
shared_part s x = gather s.n (bit s.shared) x

-- the bits of x at own and shared inputs
abbrev pub read_from : Split → ℕ → ℕ
read_from s x = spread s.n (first_reads s) (gather s.n (first_reads s) x)

-- the column of (a,b)
abbrev pub column_of : Split → (ℕ → Bool) → ℕ → ℕ → ℕ
column_of s F b a = column s.n F (bit s.own) (bit s.shared) b a

-- the column read at z, a number with bits at own inputs alone, for b
abbrev pub column_at : Split → (ℕ → Bool) → ℕ → ℕ → ℕ
column_at s F b z = column_of s F b (own_part s z)

-- the different columns of b
abbrev pub columns_of : Split → (ℕ → Bool) → ℕ → List ℕ
columns_of s F b = columns s.n F (bit s.own) (bit s.shared) b

-- what is known after the columns of b were looked through up to a limit: how many there are, or that they are more
-- than the limit; the first places of `seen` then stand for them, in order, and the places after those are as before
pub record Seen (s : Split) (F : ℕ → Bool) (b limit : ℕ) (before seen : List ℕ) (k : ℕ) : Type 0 where
  pub few : k ≤ limit → k ≡ length (columns_of s F b)
  pub many : (k ≤ limit → ⊥) → limit < length (columns_of s F b)
  pub stands : k ≤ limit → map (column_at s F b) (take k seen) ≡ columns_of s F b
  pub own : (i : ℕ) → i < k → i < limit → Within s.n s.own (get_or seen i 0)
  pub stay : (i : ℕ) → k ≤ i → get_or seen i 0 ≡ get_or before i 0

-- the room for a chart: 2 ^ r columns for each assignment of the shared inputs, r and these making at most 7
abbrev pub chart_room : ℕ
chart_room = 2 ^ 7

-- place b * limit + d of `seen` stands for column d of b, or for column 0 where b has no column d
pub record Chart (s : Split) (F : ℕ → Bool) (limit : ℕ) (seen : List ℕ) : Type 0 where
  pub long : limit * 2 ^ size s.n (bit s.shared) ≤ length seen
  pub own : (b d : ℕ) → b < 2 ^ size s.n (bit s.shared) → d < limit
      → Within s.n s.own (get_or seen (b * limit + d) 0)
  pub stands : (b d : ℕ) → b < 2 ^ size s.n (bit s.shared) → d < limit
      → column_at s F b (get_or seen (b * limit + d) 0) ≡ get_or (columns_of s F b) d (column_at s F b 0)
