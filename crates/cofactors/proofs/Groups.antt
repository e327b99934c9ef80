-- Groups of p cells each, one behind the other: how many cells, a rule that each of them keeps, what the last cell of a
-- group gives, and what is read. Assumes nothing.
use mathlib.Core.Path.{◌≡◌, refl, sym, ap, ap₂, ◌∙◌, subst}
use mathlib.Core.Logic.{⊎_elim}
use mathlib.Core.Bool.{Bool, false, cond}
use mathlib.Core.List.{List, [], ◌∷◌, ◌++◌}
use Prim.Native.Nat.{ℕ, zero, suc, ◌+◌, ◌-◌, ◌*◌, ◌<◌, ◌≤◌}
use native.Mathlib.Nat.{mul-suc, mul-zero, mul-le-mul_left, not-suc-le-zero}
use native.Mathlib.Omega.{arith}
use lib.Dec.{eqb}
use lib.ListN.{length, length-append}
use borrow.Author.Tests.{eq-eqb, ne_eqb}
use Rattle.bits.proofs.Below.{below_suc}
use Rattle.sheets.specs.Network.{Cell, output, run}
use Rattle.sheets.specs.Reading.{reads}
use Rattle.networks.specs.Signals.{values}
use Rattle.networks.proofs.Values.{values_below}
use Rattle.chains.proofs.Each.{Each, each_append}
use Rattle.chains.proofs.Read.{reads-append}
use Rattle.chains.proofs.Running.{values-append}
use Rattle.cofactors.specs.Cofactors.{join_of}

-- the answer of a network is its last cell's signal
pub run_last : (o : Bool) (i : ℕ) (cs : List Cell) (v : ℕ → Bool) (s : ℕ) → suc s ≡ i + length cs → i ≤ s
    → run o i cs v ≡ values i cs v s
unfolding run values
run_last o i [] v s e h = absurd (omega arith)
run_last o i (c ∷ []) v s e h =
    sym (ap (λ (b : Bool). cond b (output c v) (v s)) (eq-eqb s i (omega arith)))
run_last o i (c ∷ d ∷ cs) v s e h =
    run_last (output c v) (suc i) (d ∷ cs) (λ s. cond (eqb s i) (output c v) (v s)) s (omega arith) (omega arith)

module _ (p : ℕ) (h : ℕ → List Cell) (each : (g : ℕ) → length (h g) ≡ p) where
  pub length-join : (m : ℕ) → length (join_of m h) ≡ p * m
  unfolding join_of
  length-join zero = sym (mul-zero p)
  length-join (suc m) = length-append (join_of m h) (h m) ∙ ap₂ (λ (a b : ℕ). a + b) (length-join m) (each m)
      ∙ sym (mul-suc p m)

  pub each_join : (P : ℕ → Cell → Type 0) (i m : ℕ) → ((g : ℕ) → g < m → Each P (i + p * g) (h g))
      → Each P i (join_of m h)
  unfolding join_of
  each_join P i zero k = tt
  each_join P i (suc m) k =
      each_append P i (join_of m h) (h m) (each_join P i m (λ g l. k g (omega arith)))
      (subst (λ (j : ℕ). Each P (i + j) (h m)) (sym (length-join m)) (k m (omega arith)))

  -- the last cell of group g gives E g, whatever the groups before it left, as long as that is v below i
  pub values_join : (i : ℕ) (v : ℕ → Bool) (E : ℕ → Bool) (m : ℕ) → 1 ≤ p
      → ((g : ℕ) → g < m → (u : ℕ → Bool) → ((s : ℕ) → s < i → u s ≡ v s) → values (i + p * g) (h g) u
      (i + p * g + (p - 1)) ≡ E g)
      → (g : ℕ) → g < m → values i (join_of m h) v (i + p * g + (p - 1)) ≡ E g
  unfolding join_of
  values_join i v E zero o k g l = absurd (not-suc-le-zero l)
  values_join i v E (suc m) o k g l =
      let w = values i (join_of m h) v in
      let s = i + p * g + (p - 1) in
      ap (λ (x : ℕ → Bool). x s) (values-append i (join_of m h) (h m) v)
      ∙ ap (λ (j : ℕ). values (i + j) (h m) w s) (length-join m)
      ∙ ⊎_elim (old (values_join i v E m o (λ g l. k g (omega arith)) g)) new (below_suc {j = g} {n = m} l)
    where
      old : (g < m → values i (join_of m h) v (i + p * g + (p - 1)) ≡ E g) → g < m
          → values (i + p * m) (h m) (values i (join_of m h) v) (i + p * g + (p - 1)) ≡ E g
      old ih l = values_below (i + p * m) (h m) (values i (join_of m h) v) (i + p * g + (p - 1))
          (omega (arith, mul-suc p g, mul-le-mul_left p l)) ∙ ih l

      new : g ≡ m → values (i + p * m) (h m) (values i (join_of m h) v) (i + p * g + (p - 1)) ≡ E g
      new q = ap (λ (j : ℕ). values (i + p * m) (h m) (values i (join_of m h) v) (i + p * j + (p - 1))) q
          ∙ k m (omega arith) (values i (join_of m h) v) (λ s l. values_below i (join_of m h) v s l) ∙ ap E (sym q)

  -- what a group reads is read
  pub reads-join : (s g m : ℕ) → g < m → reads s (h g) ≤ reads s (join_of m h)
  unfolding join_of
  reads-join s g zero l = absurd (not-suc-le-zero l)
  reads-join s g (suc m) l =
      let e = reads-append s (join_of m h) (h m) in
      ⊎_elim (λ k. omega (arith, reads-join s g m k)) (λ q. omega (arith, ap (λ (j : ℕ). reads s (h j)) q))
      (below_suc {j = g} {n = m} l)
