-- The sheet of cofactors of a table over more than K signals: a cell over the first K of them for each way to set the
-- others, which then select one of these cells.
use Rattle.std.specs.Prelude.{Bool, true, false, cond, ◌&&◌, List, [], ◌∷◌, ◌++◌, ℕ, zero, suc, ◌+◌, ◌-◌, ◌*◌, ◌/◌, ◌%◌, ◌^◌, leb, ltb, length, get_or}
use Rattle.bits.specs.Numbers.{bit, number}
use Rattle.bits.specs.Lists.{list_of}
use Rattle.sheets.specs.Network.{Cell}
use Rattle.chains.specs.Chain.{Made, stuck, made, inputs}
use Rattle.chains.specs.Aside.{kept_signals, kept_table}

-- ---- the cofactors

-- cofactor v of the table T over the signals l: it reads the first K, and the others are as the bits of v
abbrev pub cofactor : ℕ → List ℕ → ℕ → ℕ → Cell
cofactor K l T v = record {
  signals = list_of K (λ j. get_or l j 0);
  table = number (2 ^ K) (λ y. bit T (v * 2 ^ K + y));
}

-- ---- selecting one of several signals

-- of the inputs after the first w, the one whose number the first w make
abbrev pub selector : ℕ → ℕ
selector w = number (2 ^ (w + 2 ^ w)) (λ x. bit (x / 2 ^ w) (x % 2 ^ w))

-- the cells that select one of the signals f 0, f 1, .. by w selecting signals q 0, q 1, ..: one cell where it has room
-- for all of them; with cells of two inputs three, from signal i on, `!q & a`, `q & b` and the OR of these two
abbrev pub selecting : Bool → ℕ → ℕ → (ℕ → ℕ) → (ℕ → ℕ) → List Cell
selecting true w i q f = record { signals = list_of w q ++ list_of (2 ^ w) f; table = selector w } ∷ []
selecting false w i q f =
    record { signals = q 0 ∷ f 0 ∷ []; table = 4 } ∷ record { signals = q 0 ∷ f 1 ∷ []; table = 8 }
    ∷ record { signals = i ∷ suc i ∷ []; table = 14 } ∷ []

-- how many those are
abbrev pub cells_each : Bool → ℕ
cells_each true = 1
cells_each false = 3

-- ---- level by level

-- the lists h 0, .., h (m - 1), one behind the other
unfoldable pub join_of : ℕ → (ℕ → List Cell) → List Cell
join_of zero h = []
join_of (suc m) h = join_of m h ++ h m

-- how many selecting signals the levels use in all
abbrev pub total : List ℕ → ℕ
total [] = 0
total (w ∷ ws) = w + total ws

-- the cells that select one of the signals f 0, f 1, .. by the selecting signals q 0, q 1, .., the first giving signal
-- i: each level uses as many selecting signals as the list says, and the last cell of each group stands for it on the
-- next level
unfoldable pub levels : Bool → ℕ → List ℕ → (ℕ → ℕ) → (ℕ → ℕ) → List Cell
levels one i [] q f = []
levels one i (w ∷ ws) q f =
    let m = 2 ^ total ws in
    let p = cells_each one in
    join_of m (λ g. selecting one w (i + p * g) q (λ t. f (2 ^ w * g + t)))
    ++ levels one (i + p * m) ws (λ t. q (w + t)) (λ g. i + p * g + (p - 1))

-- s selecting signals, one on each level; or two, and on the last level what is left
abbrev pub by_ones : ℕ → List ℕ
by_ones zero = []
by_ones (suc s) = 1 ∷ by_ones s

abbrev pub by_twos : ℕ → List ℕ
by_twos zero = []
by_twos (suc zero) = 1 ∷ []
by_twos (suc (suc s)) = 2 ∷ by_twos s

-- with K at least 6 a cell has room for two selecting signals and four others
abbrev pub widths : ℕ → ℕ → List ℕ
widths K s = cond (leb 6 K) (by_twos s) (by_ones s)

-- ---- the sheet

-- the cells, the first giving signal i, of the table T over the signals l
unfoldable pub cofactor_cells : ℕ → ℕ → List ℕ → ℕ → List Cell
cofactor_cells K i l T =
    let s = length l - K in
    list_of (2 ^ s) (cofactor K l T)
    ++ levels (leb 3 K) (i + 2 ^ s) (widths K s) (λ t. get_or l (K + t) 0) (λ v. i + v)

-- a, b or c for 1, 2 or 3
abbrev pub of_three : ℕ → ℕ → ℕ → ℕ → ℕ
of_three a b c zero = 0
of_three a b c (suc zero) = a
of_three a b c (suc (suc zero)) = b
of_three a b c (suc (suc (suc s))) = c

-- how many they are, by the number of selecting signals: 3, 5, 11 with K at least 6; 3, 7, 15 with K from 3 to 5; 5, 13
-- with K = 2
abbrev pub cofactor_count : ℕ → ℕ → ℕ
cofactor_count K s = cond (leb 6 K) (of_three 3 5 11 s) (cond (leb 3 K) (of_three 3 7 15 s) (of_three 5 13 0 s))

-- at most so many signals select: with more the cells would be more than a sheet has
abbrev pub most_selecting : ℕ → ℕ
most_selecting K = cond (leb 3 K) 3 2

-- whether a table over c signals has such a sheet
abbrev pub has_cofactors : ℕ → ℕ → Bool
has_cofactors K c = ltb K c && leb c (K + most_selecting K)

unfoldable pub cofactors_of : ℕ → ℕ → List ℕ → ℕ → Made
cofactors_of K i l T = cond (has_cofactors K (length l)) (made (cofactor_cells K i l T)) stuck

-- that of the table T of a gate of n inputs, with what does not count set aside
unfoldable pub cofactors_aside : ℕ → ℕ → ℕ → Made
cofactors_aside n K T = cofactors_of K n (kept_signals (inputs n) T) (kept_table (inputs n) T)
