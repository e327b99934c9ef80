-- When a network is the fewest for want of reads: m cells count at most m (K - 1) + 1 inputs, so that fewer cells
-- cannot count as many. It covers every one of cells that are full and read no signal twice. Assumes nothing.
use mathlib.Core.Path.{◌≡◌, refl, sym, ap, ◌∙◌, subst}
use mathlib.Core.Bool.{Bool, true}
use mathlib.Core.List.{List, [], ◌∷◌}
use Prim.Native.Nat.{ℕ, zero, suc, ◌+◌, ◌-◌, ◌*◌, ◌<◌, ◌≤◌}
use native.Mathlib.Nat.{mul-le-mul_right, mul-suc, suc-mul, not-suc-le-zero}
use native.Mathlib.Decide.{dec_lt}
use native.Mathlib.Omega.{arith}
use lib.Dec.{eqb}
use lib.ListN.{length}
use borrow.Author.Tests.{eq-eqb}
use Rattle.bits.specs.Numbers.{val}
use Rattle.bits.specs.Sets.{size}
use Rattle.bits.proofs.Sizes.{size-lt}
use Rattle.bits.proofs.Counting.{size_all}
use Rattle.tables.specs.Counting.{Counting, AllCount}
use Rattle.sheets.specs.Network.{Cell, Wired, Gives, Carries}
use Rattle.sheets.specs.Reading.{times, reads}
use Rattle.networks.proofs.Sums.{sum}
use Rattle.fewest.specs.Fewest.{Fewest, Filled}
use Rattle.chains.proofs.Lists.{AllBelow}
use Rattle.fewest.proofs.Reach.{reach}

-- so many cells as the inputs that count ask for are the fewest
pub enough-inputs : (n K : ℕ) (F : ℕ → Bool) (cs : List Cell) (S : ℕ → Bool) → Counting n F S → Gives n K F cs
    → (length cs - 1) * (K - 1) + 1 < size n S → Fewest n K F cs
enough-inputs n K F cs S counts N h = record { network = N; least = least }
  where
    least : (m : ℕ) → Carries n K m F → length cs ≤ m
    least m C = elim (dec_lt m (length cs)) [
      | yes l ↦ let g : m ≤ length cs - 1 = omega arith
          in absurd (omega (arith, reach n K m F S counts C, mul-le-mul_right (K - 1) g))
      | no l ↦ omega arith
    ]

-- where every input counts, n of them do
pub enough_all : (n K : ℕ) (F : ℕ → Bool) (cs : List Cell) → AllCount n F → Gives n K F cs → (length cs - 1) * (K - 1)
    + 1 < n → Fewest n K F cs
enough_all n K F cs all N h = enough-inputs n K F cs (λ j. true) (λ j l _. all j l) N (omega (arith, size_all n))

-- ---- full cells that read no signal twice: there are as many reads as cells times K, and no more than signals

sum-add : (n : ℕ) (f g : ℕ → ℕ) → sum n (λ s. f s + g s) ≡ sum n f + sum n g
unfolding sum
sum-add zero f g = refl
sum-add (suc n) f g = omega (arith, sum-add n f g)

sum-size : (n : ℕ) (t : ℕ → Bool) → sum n (λ s. val (t s)) ≡ size n t
unfolding sum size
sum-size zero t = refl
sum-size (suc n) t = omega (arith, sum-size n t)

sum_most : (n : ℕ) (f : ℕ → ℕ) → ((s : ℕ) → f s ≤ 1) → sum n f ≤ n
unfolding sum
sum_most zero f h = omega arith
sum_most (suc n) f h = omega (arith, sum_most n f h, h n)

-- every place of a list of signals below n is one of the reads
times_all : (n : ℕ) (l : List ℕ) → AllBelow n l → length l ≤ sum n (λ s. times s l)
times_all n [] h = omega arith
times_all n (x ∷ l) h =
    omega (
      arith,
      sum-add n (λ s. val (eqb s x)) (λ s. times s l),
      sum-size n (λ s. eqb s x),
      size-lt n (λ s. eqb s x) x (h 0 (omega arith)) (eq-eqb x x refl),
      times_all n l (λ j q. h (suc j) (omega arith)),
    )

-- all places of all cells
places : List Cell → ℕ
places [] = 0
places (c ∷ cs) = length c.signals + places cs

reads_all : (n K i : ℕ) (cs : List Cell) → Wired K i cs → i + length cs ≤ suc n → places cs ≤ sum n (λ s. reads s cs)
unfolding places
reads_all n K i [] w h = omega arith
reads_all n K i (c ∷ cs) w h =
    omega (
      arith,
      sum-add n (λ s. times s c.signals) (λ s. reads s cs),
      times_all n c.signals (λ j q. let b = w.1 j q in omega arith),
      reads_all n K (suc i) cs w.2 (omega arith),
    )

filled_places : (K : ℕ) (c : Cell) (cs : List Cell) → Filled K (c ∷ cs) → length cs * K + 2 ≤ places (c ∷ cs)
unfolding places
filled_places K c [] f = omega arith
filled_places K c (d ∷ cs) f = omega (arith, filled_places K d cs f.1, f.0, suc-mul (length cs) K)

filled_two : (K i : ℕ) (c : Cell) (cs : List Cell) → Filled K (c ∷ cs) → Wired K i (c ∷ cs) → 2 ≤ K
filled_two K i c [] f w = omega (arith, w.0)
filled_two K i c (d ∷ cs) f w = filled_two K (suc i) d cs f.1 w.2

-- cells that are full but for the last, no signal read twice, every input counting: fewer cells do not do
pub filled_fewest : (n K : ℕ) (F : ℕ → Bool) (cs : List Cell) → AllCount n F → Gives n K F cs → Filled K cs
    → ((s : ℕ) → reads s cs ≤ 1) → Fewest n K F cs
filled_fewest n K F [] all N f once = absurd (not-suc-le-zero N.some)
filled_fewest n K F (c ∷ cs) all N f once =
    let m = length cs in
    let two = filled_two K n c cs f N.wired in
    let read = reads_all (n + m) K n (c ∷ cs) N.wired (omega arith) in
    let q : m * K ≡ m * (K - 1) + m = let k : K ≡ suc (K - 1) = omega arith in ap (λ (z : ℕ). m * z) k
    ∙ mul-suc m (K - 1) in
    let e : suc m - 1 ≡ m = omega arith in
    enough_all n K F (c ∷ cs) all N (subst (λ (z : ℕ). z * (K - 1) + 1 < n) (sym e)
    (omega (arith, filled_places K c cs f, sum_most (n + m) (λ s. reads s (c ∷ cs)) once)))
