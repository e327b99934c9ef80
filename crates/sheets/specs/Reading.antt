-- Which cells of a network, and which records of a sheet, are read by a later one.
use Rattle.std.specs.Prelude.{◌≡◌, Bool, cond, ◌||◌, List, [], ◌∷◌, ◌++◌, map, ℕ, suc, ◌+◌, ◌-◌, ◌<◌, ◌≤◌, ltb, eqb, length, take, drop}
use Rattle.bits.specs.Numbers.{bit, val, number}
use Rattle.bits.specs.Below.{least}
use Rattle.bits.specs.Lists.{list_of}
use Rattle.sheets.specs.declared.kinds.Edition.{Edition}
use Rattle.sheets.specs.Network.{Cell}
use Rattle.sheets.specs.Sheet.{record_at, sheet_cells}

-- how often a list has signal s
abbrev pub times : ℕ → List ℕ → ℕ
times s [] = 0
times s (x ∷ l) = val (eqb s x) + times s l

-- how often the cells read signal s
abbrev pub reads : ℕ → List Cell → ℕ
reads s [] = 0
reads s (c ∷ cs) = times s c.signals + reads s cs

-- no cell reads signal s
abbrev pub none_reads : ℕ → List Cell → Bool
none_reads s cs = eqb (reads s cs) 0

-- ---- cells of a network of n inputs, in which cell i gives signal n + i

-- each cell but the last is read by a later one
abbrev pub AllRead : ℕ → List Cell → Type 0
AllRead n cs = (i : ℕ) → i + 1 < length cs → 1 ≤ reads (n + i) (drop (suc i) cs)

-- no later cell reads cell i
abbrev pub unread_cell : ℕ → List Cell → ℕ → Bool
unread_cell n cs i = none_reads (n + i) (drop (suc i) cs)

-- a signal's number where the signal g is taken away
abbrev pub lowered : ℕ → ℕ → ℕ
lowered g x = cond (ltb g x) (x - 1) x

-- a cell that reads its signals under those numbers
abbrev pub renumbered : ℕ → Cell → Cell
renumbered g c = record { signals = map (lowered g) c.signals; table = c.table }

-- the network without cell i
abbrev pub without : ℕ → ℕ → List Cell → List Cell
without n i cs = take i cs ++ map (renumbered (n + i)) (drop (suc i) cs)

-- ---- records of a sheet

-- record i of m is read: a later one names signal n + i among its signals
pub record IsRead (e : Edition) (n : ℕ) (s : List ℕ) (m i : ℕ) : Type 0 where
  pub reader : ℕ
  pub later : i < reader
  pub within : reader < m
  pub place : ℕ
  pub among : place < record_at e s reader 0
  pub names : record_at e s reader (place + 1) ≡ n + i

-- each of m records but the last is read
abbrev pub EachRead : Edition → ℕ → List ℕ → ℕ → Type 0
EachRead e n s m = (i : ℕ) → i + 1 < m → IsRead e n s m i

-- record i is the first of m, the last aside, that isn't
pub record IsFirstUnread (e : Edition) (n : ℕ) (s : List ℕ) (m i : ℕ) : Type 0 where
  pub within : i + 1 < m
  pub alone : IsRead e n s m i → ⊥
  pub before : (j : ℕ) → j < i → IsRead e n s m j

-- ---- the same as a test

-- record i of m isn't read
abbrev pub unread : Edition → ℕ → List ℕ → ℕ → ℕ → Bool
unread e n s m i = unread_cell n (sheet_cells e s m) i

-- the first of m records but the last that isn't, and the last where each other is
abbrev pub first_unread : Edition → ℕ → List ℕ → ℕ → ℕ
first_unread e n s m = least (m - 1) (unread e n s m)

-- a mask, bit x of which says that signal x is read, with the signals of a record besides
abbrev pub also_read : (ℕ → ℕ) → ℕ → ℕ
also_read b w = number 32 (λ x. bit w x || ltb 0 (times x (list_of (b 0) (λ j. b (j + 1)))))
