-- A signal's column says which cells read it, as a number: the first cell's digit is the highest. Of two columns the
-- larger one has the first digit that only one of them has. Assumes nothing.
use mathlib.Core.Path.{◌≡◌, refl, ap, ap₂, ◌∙◌}
use mathlib.Core.Bool.{Bool, true, false}
use mathlib.Core.List.{List, [], ◌∷◌, map}
use Prim.Native.Nat.{ℕ, zero, suc, ◌+◌, ◌*◌, ◌^◌, ◌<◌, ◌≤◌}
use native.Mathlib.Nat.{not-suc-le-zero, pow-suc}
use native.Mathlib.Omega.{arith}
use lib.ListN.{length, length-map}
use Rattle.bits.specs.Numbers.{val}
use Rattle.bits.specs.Lists.{member}
use Rattle.sheets.specs.Network.{Cell}
use Rattle.networks.specs.Sorted.{First}
use Rattle.networks.proofs.Turning.{Moves, turned, turned-member}

pub column : ℕ → List Cell → ℕ
column s [] = 0
column s (c ∷ cs) = val (member s c.signals) * 2 ^ length cs + column s cs

column_lt : (s : ℕ) (cs : List Cell) → column s cs < 2 ^ length cs
unfolding column
column_lt s [] = omega arith
column_lt s (c ∷ cs) = go (member s c.signals) (column_lt s cs)
  where
    go : (t : Bool) → column s cs < 2 ^ length cs → val t * 2 ^ length cs + column s cs < 2 ^ suc (length cs)
    go true h = omega (arith, pow-suc 2 (length cs))
    go false h = omega (arith, pow-suc 2 (length cs))

-- where the column of p isn't the smaller one, the first cell that reads just one of the two reads p
pub column_first : (p q : ℕ) (cs : List Cell) → column q cs ≤ column p cs → First cs p q
unfolding column
column_first p q [] h i l same r = absurd (not-suc-le-zero l)
column_first p q (c ∷ cs) h zero l same r = go (member p c.signals) (member q c.signals) r h
  where
    go : (t u : Bool) → u ≡ true → val u * 2 ^ length cs + column q cs ≤ val t * 2 ^ length cs + column p cs → t ≡ true
    go true u r h = refl
    go false true r h = absurd (omega (arith, column_lt p cs))
    go false false r h = r
column_first p q (c ∷ cs) h (suc i) l same r =
    column_first p q cs (omega (arith, ap (λ (t : Bool). val t * 2 ^ length cs) (same 0 (omega arith)))) i (omega arith)
    (λ j a. same (suc j) (omega arith)) r

-- a signal's column is that of its other number
pub column_turned : (n : ℕ) (σ : ℕ → ℕ) (φ : ℕ → Bool) → Moves n σ φ → (s : ℕ) (cs : List Cell)
    → column (σ s) (map (turned σ φ) cs) ≡ column s cs
unfolding column turned
column_turned n σ φ M s [] = refl
column_turned n σ φ M s (c ∷ cs) =
    ap₂ (λ (t : Bool) (k : ℕ). val t * 2 ^ k + column (σ s) (map (turned σ φ) cs))
    (turned-member n σ φ M s c.signals) (length-map cs (turned σ φ))
    ∙ ap (λ (k : ℕ). val (member s c.signals) * 2 ^ length cs + k) (column_turned n σ φ M s cs)
