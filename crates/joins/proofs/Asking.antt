-- Two inputs asked about: their mask as the machine makes it, where the columns are read from, and what they tell.
-- Assumes nothing.
use mathlib.Core.Path.{◌≡◌, sym, ap, ap₂, ◌∙◌, subst}
use mathlib.Core.Bool.{Bool, false, ◌||◌}
use Rattle.std.proofs.Common.{Option}
use Prim.Native.Nat.{ℕ, ◌+◌, ◌*◌, ◌%◌, ◌^◌, ◌<◌, ◌≤◌}
use native.Mathlib.Nat.{add-zero}
use native.Mathlib.Omega.{arith}
use lib.Dec.{eqb}
use borrow.Author.Tests.{ne_eqb}
use Rattle.bits.specs.Numbers.{bit}
use Rattle.bits.specs.Sets.{mask_width, Apart, spread}
use Rattle.bits.proofs.Bools.{clash}
use Rattle.bits.proofs.Numbers.{number_lt, bit-number}
use Rattle.bits.proofs.Single.{single, plus_bit, plus_lt}
use Rattle.bits.proofs.Machine.{shl_one}
use Rattle.trees.proofs.Two.{own_size}
use Rattle.columns.specs.declared.split.Split.{Split}
use Rattle.columns.specs.Reading.{Held, Without, Within, alike}
use Rattle.columns.proofs.Reading.{within_spread, within_zero, start}
use Rattle.joins.specs.declared.pairs.Left.{Left}
use Rattle.joins.specs.Left.{with_fixed, gate_left, Unfixed, Fixing, value_by, Valued}
use Rattle.joins.proofs.Telling.{valued}

module _ (n : ℕ) (g : Left) (X : Fixing n g) (most : n ≤ mask_width) (i j : ℕ) (lt : j < i) (fi : Unfixed n g i)
    (fj : Unfixed n g j) where
  abbrev pub own : ℕ
  own = 1 * 2 ^ j % 2 ^ 16 + 1 * 2 ^ i % 2 ^ 16

  own_is : own ≡ 2 ^ j + 2 ^ i
  own_is = ap₂ ◌+◌ (shl_one 16 j (omega (arith, fj.0))) (shl_one 16 i (omega (arith, fi.0)))

  one_bit : (p : ℕ) → p < n → bit (2 ^ j) p ≡ eqb p j
  one_bit p l = ap (λ (m : ℕ). bit m p) (sym (single n j fj.0)) ∙ bit-number n (λ k. eqb k j) p l

  one-lt : 2 ^ j < 2 ^ n
  one-lt = omega (arith, single n j fj.0, number_lt n (λ k. eqb k j))

  one-off : bit (2 ^ j) i ≡ false
  one-off = one_bit i fi.0 ∙ ne_eqb i j (λ e. omega arith)

  pub own_lt : own < 2 ^ n
  own_lt = omega (arith, own_is, plus_lt n (2 ^ j) i one-lt fi.0 one-off)

  own_bit : (p : ℕ) → p < n → bit own p ≡ (eqb p j || eqb p i)
  own_bit p l =
      ap (λ (m : ℕ). bit m p) own_is ∙ plus_bit n (2 ^ j) i one-lt fi.0 one-off p l
      ∙ ap (λ (t : Bool). t || eqb p i) (one_bit p l)

  pub own_apart : Apart n (bit own) (bit g.fixed)
  own_apart p l e = own_bit p l ∙ ap₂ ◌||◌ (ne_eqb p j (λ z. clash (ap (bit g.fixed) (sym z) ∙ e) fj.1))
      (ne_eqb p i (λ z. clash (ap (bit g.fixed) (sym z) ∙ e) fi.1))

  -- the split that the code holds
  module _ (s : Split) (h : Held s) (en : s.n ≡ n) (eo : s.own ≡ own) (es : s.shared ≡ g.fixed) where
    bits : (p : ℕ) → p < s.n → bit s.own p ≡ (eqb p j || eqb p i)
    bits p l = ap (λ (m : ℕ). bit m p) eo ∙ own_bit p (omega (arith, en))

    inside : i < s.n
    inside = omega (arith, en, fi.0)

    within : Within s.n s.shared g.at
    within = subst (λ (m : ℕ). Within m s.shared g.at) (sym en)
        (subst (λ (f : ℕ). Within n f g.at) (sym es) X.within)

    place : (k : ℕ) → spread n (bit own) k ≡ spread s.n (bit s.own) k
    place k = ap₂ (λ (m o : ℕ). spread m (bit o) k) (sym en) (sym eo)

    pub without : (k z : ℕ) → k < 4 → z ≡ spread n (bit own) k → Without s.n s.free (g.at + z)
    without k z l e =
        start s h (λ x. false) g.at within z (subst (Within s.n s.own) (sym (e ∙ place k))
        (within_spread s.n s.own k (omega (
          arith,
          ap (λ (m : ℕ). 2 ^ m) (own_size s.n i j s.own inside (omega (arith, inside)) bits (λ z. omega arith)),
        ))))

    pub without-none : Without s.n s.free g.at
    without-none = subst (Without s.n s.free) (add-zero g.at)
        (start s h (λ x. false) g.at within 0 (within_zero s.n s.own))

    pub asked : (F : ℕ → Bool) (v : Option Bool) (x y z : ℕ) → x ≡ spread n (bit own) 1 → y ≡ spread n (bit own) 2
        → z ≡ spread n (bit own) 3 → v ≡ value_by (alike s.n F s.free) g.at (g.at + x) (g.at + y) (g.at + z)
        → Valued n (gate_left n F g) i j v
    asked F v x y z ex ey ez e =
        subst (λ (m : ℕ). Valued m (λ u. F (with_fixed m g.fixed g.at u)) i j v) en
        (subst (λ (f : ℕ). Valued s.n (λ u. F (with_fixed s.n f g.at u)) i j v) es
        (valued s h F g.at i j inside lt bits within v x y z (ex ∙ place 1) (ey ∙ place 2) (ez ∙ place 3) e))
