-- How many cells the sheet of cofactors has. Assumes nothing.
use mathlib.Core.Path.{◌≡◌, refl, sym, ap, ap₂, ◌∙◌}
use mathlib.Core.Bool.{Bool, true, false, cond}
use mathlib.Core.List.{List, [], ◌∷◌, ◌++◌}
use Prim.Native.Nat.{ℕ, zero, suc, ◌+◌, ◌-◌, ◌*◌, ◌^◌, ◌<◌, ◌≤◌}
use native.Mathlib.Omega.{arith}
use lib.Dec.{leb}
use lib.ListN.{length, get_or, length-append}
use borrow.Author.Tests.{leb-true, leb-false}
use Rattle.bits.specs.Lists.{list_of}
use Rattle.bits.proofs.Lists.{length-list}
use Rattle.sheets.specs.Edition.{most_records}
use Rattle.cofactors.specs.Cofactors.{cofactor, cells_each, join_of, total, levels, by_ones, by_twos, widths}
use Rattle.cofactors.specs.Cofactors.{cofactor_cells, of_three, cofactor_count, most_selecting}
use Rattle.cofactors.proofs.Levels.{group, next, level-length}

-- the cells of the levels
abbrev level_count : Bool → List ℕ → ℕ
level_count one [] = 0
level_count one (w ∷ ws) = cells_each one * 2 ^ total ws + level_count one ws

levels-length : (one : Bool) (i : ℕ) (ws : List ℕ) (q f : ℕ → ℕ) → length (levels one i ws q f) ≡ level_count one ws
unfolding levels
levels-length one i [] q f = refl
levels-length one i (w ∷ ws) q f =
    let k = total ws in
    let j = i + cells_each one * 2 ^ k in
    length-append (join_of (2 ^ k) (group one i w k q f)) (levels one j ws (λ t. q (w + t)) (next one i w k q f))
    ∙ ap₂ (λ (a b : ℕ). a + b) (level-length one i w k q f)
    (levels-length one j ws (λ t. q (w + t)) (next one i w k q f))

-- the three kinds of K
by_kind : (K : ℕ) (P : Bool → Bool → Type 0) → P true true → P false true → P false false → P (leb 6 K) (leb 3 K)
by_kind K P large middle two = go (leb 6 K) (leb 3 K) refl refl
  where
    go : (a b : Bool) → leb 6 K ≡ a → leb 3 K ≡ b → P a b
    go true true p q = large
    go true false p q = absurd (omega (arith, leb-true 6 K p, leb-false 3 K q))
    go false true p q = middle
    go false false p q = two

-- what holds of 1, 2 and 3 holds of the numbers of selecting signals
up_to_three : (P : ℕ → Type 0) → P 1 → P 2 → P 3 → (s : ℕ) → 1 ≤ s → s ≤ 3 → P s
up_to_three P a b c zero h g = absurd (omega arith)
up_to_three P a b c (suc zero) h g = a
up_to_three P a b c (suc (suc zero)) h g = b
up_to_three P a b c (suc (suc (suc zero))) h g = c
up_to_three P a b c (suc (suc (suc (suc s)))) h g = absurd (omega arith)

up_to_two : (P : ℕ → Type 0) → P 1 → P 2 → (s : ℕ) → 1 ≤ s → s ≤ 2 → P s
up_to_two P a b zero h g = absurd (omega arith)
up_to_two P a b (suc zero) h g = a
up_to_two P a b (suc (suc zero)) h g = b
up_to_two P a b (suc (suc (suc s))) h g = absurd (omega arith)

-- how many cells, by kind
abbrev counted : Bool → Bool → ℕ → ℕ
counted a b s = cond a (of_three 3 5 11 s) (cond b (of_three 3 7 15 s) (of_three 5 13 0 s))

abbrev Counted : Bool → Bool → ℕ → Type 0
Counted a b s = (2 ^ s + level_count b (cond a (by_twos s) (by_ones s)) ≡ counted a b s) × (3 ≤ counted a b s)
    × (counted a b s ≤ most_records) × (s < counted a b s)

abbrev Counts : Bool → Bool → Type 0
Counts a b = (s : ℕ) → 1 ≤ s → s ≤ cond b 3 2 → Counted a b s

counts : (K : ℕ) → Counts (leb 6 K) (leb 3 K)
counts K = by_kind K Counts
    (up_to_three (Counted true true) (refl, omega arith, omega arith, omega arith)
    (refl, omega arith, omega arith, omega arith) (refl, omega arith, omega arith, omega arith))
    (up_to_three (Counted false true) (refl, omega arith, omega arith, omega arith)
    (refl, omega arith, omega arith, omega arith) (refl, omega arith, omega arith, omega arith))
    (up_to_two (Counted false false) (refl, omega arith, omega arith, omega arith)
    (refl, omega arith, omega arith, omega arith))

pub cofactors_count : (K i : ℕ) (l : List ℕ) (T : ℕ) → K < length l → length l ≤ K + most_selecting K
    → length (cofactor_cells K i l T) ≡ cofactor_count K (length l - K)
unfolding cofactor_cells
cofactors_count K i l T h g =
    let s = length l - K in
    length-append (list_of (2 ^ s) (cofactor K l T)) (levels (leb 3 K) (i + 2 ^ s) (widths K s) (λ t. get_or l (K + t) 0)
    (λ v. i + v))
    ∙ ap₂ (λ (a b : ℕ). a + b) (length-list (2 ^ s) (cofactor K l T))
    (levels-length (leb 3 K) (i + 2 ^ s) (widths K s) (λ t. get_or l (K + t) 0) (λ v. i + v))
    ∙ (counts K s (omega arith) (omega arith)).0

-- a sheet has room for them; they are three at least, and more than the selecting signals
pub count_most : (K s : ℕ) → 1 ≤ s → s ≤ most_selecting K → (3 ≤ cofactor_count K s) × (cofactor_count K s ≤ most_records)
    × (s < cofactor_count K s)
count_most K s h g = let c = counts K s h g in (c.1, c.2, c.3)
