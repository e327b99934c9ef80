-- How many signals select on the next level. Assumes nothing.
use mathlib.Core.Path.{◌≡◌, refl, sym, ap, ◌∙◌}
use mathlib.Core.Logic.{◌⊎◌, inl, inr, ⊎_elim}
use mathlib.Core.Bool.{Bool, true, false, cond}
use mathlib.Core.List.{List, ◌∷◌}
use Prim.Native.Nat.{ℕ, zero, suc, ◌-◌, ◌*◌, ◌<◌, ◌≤◌}
use native.Mathlib.Nat.{mul-le-mul}
use native.Mathlib.Omega.{arith}
use lib.Dec.{leb}
use borrow.Author.Tests.{le-leb, lt-leb}
use Rattle.cofactors.specs.Cofactors.{cells_each, by_ones, by_twos, widths}
use Rattle.selectors.specs.Standing.{NextWidth}

-- by the kind of K
by_twos_lem : (k s : ℕ) → 6 ≤ k → widths k s ≡ by_twos s
by_twos_lem k s h = ap (λ (t : Bool). cond t (by_twos s) (by_ones s)) (le-leb 6 k h)

by_ones_lem : (k s : ℕ) → k < 6 → widths k s ≡ by_ones s
by_ones_lem k s h = ap (λ (t : Bool). cond t (by_twos s) (by_ones s)) (lt-leb 6 k h)

pub ones-next : (k s : ℕ) → k < 6 → 1 ≤ s → NextWidth k s 1
ones-next k zero h g = absurd (omega arith)
ones-next k (suc s) h g =
    let e : suc s - 1 ≡ s = omega arith in
    record {
      widths = by_ones_lem k (suc s) h ∙ ap (λ (l : List ℕ). 1 ∷ l) (sym (ap (widths k) e ∙ by_ones_lem k s h));
      fits = inl refl;
      within = omega arith;
    }

pub last_next : (k s : ℕ) → 6 ≤ k → 1 ≤ s → s < 2 → NextWidth k s 1
last_next k zero h g l = absurd (omega arith)
last_next k (suc zero) h g l = record {
  widths = by_twos_lem k 1 h ∙ ap (λ (l : List ℕ). 1 ∷ l) (sym (by_twos_lem k 0 h));
  fits = inl refl;
  within = omega arith;
}
last_next k (suc (suc s)) h g l = absurd (omega arith)

pub twos_next : (k s : ℕ) → 6 ≤ k → 2 ≤ s → NextWidth k s 2
twos_next k zero h g = absurd (omega arith)
twos_next k (suc zero) h g = absurd (omega arith)
twos_next k (suc (suc s)) h g =
    let e : suc (suc s) - 2 ≡ s = omega arith in
    record {
      widths = by_twos_lem k (suc (suc s)) h ∙ ap (λ (l : List ℕ). 2 ∷ l) (sym (ap (widths k) e ∙ by_twos_lem k s h));
      fits = inr (refl, omega arith);
      within = omega arith;
    }

-- one at least
pub some_width : {k w : ℕ} → (w ≡ 1) ⊎ ((w ≡ 2) × (3 ≤ k)) → 1 ≤ w
some_width h = ⊎_elim (λ e. omega arith) (λ e. omega (arith, e.0)) h

-- and two at most
pub few_width : {k w : ℕ} → (w ≡ 1) ⊎ ((w ≡ 2) × (3 ≤ k)) → w ≤ 2
few_width h = ⊎_elim (λ e. omega arith) (λ e. omega (arith, e.0)) h

-- how many cells for a group, by K
pub each_three : (k : ℕ) → k < 3 → cells_each (leb 3 k) ≡ 3
each_three k h = ap cells_each (lt-leb 3 k h)

pub each_one : (k : ℕ) → 3 ≤ k → cells_each (leb 3 k) ≡ 1
each_one k h = ap cells_each (le-leb 3 k h)

-- small steps make small signals
pub near_by : (s x : ℕ) → s ≤ 3 → x ≤ 11 → s * x ≤ 33
near_by s x h g = mul-le-mul h g

pub few_each : (k : ℕ) → (1 ≤ cells_each (leb 3 k)) × (cells_each (leb 3 k) ≤ 3)
few_each k = go (leb 3 k)
  where
    go : (t : Bool) → (1 ≤ cells_each t) × (cells_each t ≤ 3)
    go true = (omega arith, omega arith)
    go false = (omega arith, omega arith)
