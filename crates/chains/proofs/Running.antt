-- Cells that read only signals below i, run in turn from signal i on: the signals below i stay, and signal i + t is
-- what cell t gives. Assumes nothing.
use mathlib.Core.Path.{◌≡◌, refl, sym, ap, ◌∙◌}
use mathlib.Core.Logic.{⊎_elim}
use mathlib.Core.Bool.{Bool, cond}
use mathlib.Core.List.{List, [], ◌∷◌, ◌++◌}
use Prim.Native.Nat.{ℕ, zero, suc, ◌+◌, ◌<◌}
use native.Mathlib.Nat.{add-zero, not-suc-le-zero}
use native.Mathlib.Omega.{arith}
use lib.Dec.{eqb}
use lib.ListN.{length, get_or}
use borrow.Author.Tests.{eq-eqb, ne_eqb}
use Rattle.bits.specs.Numbers.{bit}
use Rattle.bits.specs.Lists.{list_of}
use Rattle.bits.proofs.Below.{below_suc}
use Rattle.bits.proofs.Lists.{length-list}
use Rattle.bits.proofs.Numbers.{number_ext}
use Rattle.sheets.specs.Network.{Cell, output}
use Rattle.networks.specs.Signals.{values}
use Rattle.chains.proofs.Lists.{AllBelow}

-- some cells, then others
pub values-append : (i : ℕ) (cs ds : List Cell) (v : ℕ → Bool) → values i (cs ++ ds) v
    ≡ values (i + length cs) ds (values i cs v)
unfolding values
values-append i [] ds v = ap (λ (j : ℕ). values j ds v) (sym (add-zero i))
values-append i (c ∷ cs) ds v =
    let w : ℕ → Bool = λ s. cond (eqb s i) (output c v) (v s) in
    let e : suc i + length cs ≡ i + suc (length cs) = omega arith in
    values-append (suc i) cs ds w ∙ ap (λ (j : ℕ). values j ds (values (suc i) cs w)) e

-- ---- cells f 0, f 1, .. that read only signals below i
module _ (i : ℕ) (f : ℕ → Cell) (v : ℕ → Bool) (low : (t : ℕ) → AllBelow i (f t).signals) where
  -- the signals' values after the first r of them
  abbrev w : ℕ → ℕ → Bool
  w r = values i (list_of r f) v

  one_more : (r s : ℕ) → w (suc r) s ≡ cond (eqb s (i + r)) (output (f r) (w r)) (w r s)
  unfolding list_of values
  one_more r s =
      ap (λ (g : ℕ → Bool). g s) (values-append i (list_of r f) (f r ∷ []) v)
      ∙ ap (λ (n : ℕ). cond (eqb s (i + n)) (output (f r) (w r)) (w r s)) (length-list r f)

  pub after_old : (r s : ℕ) → s < i → w r s ≡ v s
  unfolding list_of values
  after_old zero s h = refl
  after_old (suc r) s h =
      one_more r s ∙ ap (λ (t : Bool). cond t (output (f r) (w r)) (w r s)) (ne_eqb s (i + r) (omega arith))
      ∙ after_old r s h

  same-output : (r t : ℕ) → output (f t) (w r) ≡ output (f t) v
  unfolding output
  same-output r t =
      ap (bit (f t).table) (number_ext (length (f t).signals) (λ j. w r (get_or (f t).signals j 0))
      (λ j. v (get_or (f t).signals j 0))
      (λ j h. after_old r (get_or (f t).signals j 0) (low t j h)))

  pub after_new : (r t : ℕ) → t < r → w r (i + t) ≡ output (f t) v
  after_new zero t h = absurd (not-suc-le-zero h)
  after_new (suc r) t h = one_more r (i + t) ∙ ⊎_elim (old (after_new r t)) new (below_suc {j = t} {n = r} h)
    where
      old : (t < r → w r (i + t) ≡ output (f t) v) → t < r
          → cond (eqb (i + t) (i + r)) (output (f r) (w r)) (w r (i + t)) ≡ output (f t) v
      old ih l = ap (λ (b : Bool). cond b (output (f r) (w r)) (w r (i + t))) (ne_eqb (i + t) (i + r) (omega arith))
          ∙ ih l

      new : t ≡ r → cond (eqb (i + t) (i + r)) (output (f r) (w r)) (w r (i + t)) ≡ output (f t) v
      new e =
          ap (λ (b : Bool). cond b (output (f r) (w r)) (w r (i + t)))
          (eq-eqb (i + t) (i + r) (ap (λ (k : ℕ). i + k) e))
          ∙ same-output r r ∙ ap (λ (k : ℕ). output (f k) v) (sym e)
