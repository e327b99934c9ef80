-- Kinds 10 to 14: each cell but the last is read, and of inputs that can change places the lower one is read first.
-- Assumes nothing.
use mathlib.Core.Path.{◌≡◌, sym, ap, ap₂, ◌∙◌}
use mathlib.Core.Bool.{Bool, true, ◌&&◌, beq}
use mathlib.Core.List.{List, [], ◌∷◌}
use Prim.Native.Nat.{ℕ, ◌+◌, ◌-◌, ◌<◌}
use native.Mathlib.Omega.{arith}
use Rattle.bits.specs.Lists.{list_of}
use Rattle.bits.proofs.Bools.{clash, false_of, and_left, and_right, beq_same, same-beq}
use Rattle.bits.proofs.Below.{every_at, every_more}
use Rattle.sheets.specs.Network.{Cell}
use Rattle.networks.specs.Signals.{does_read}
use Rattle.networks.specs.Swapping.{swappable}
use Rattle.networks.specs.Sorted.{Sorted}
use Rattle.networks.proofs.Exchanging.{swappable_is}
use Rattle.clauses.specs.declared.variables.Size.{Size}
use Rattle.clauses.specs.declared.variables.Variable.{Variable}
use Rattle.clauses.specs.declared.variables.Variable.TheVariants.{Reads, Same}
use Rattle.clauses.specs.declared.variables.Literal.TheVariants.{Said, Denied}
use Rattle.truths.specs.Meaning.{read_alike, means}
use Rattle.truths.proofs.OneTrue.{OneTrue, next, true_list, either, said, denied}

module _ (z : Size) (F : ℕ → Bool) (row : ℕ → ℕ) (S : Sorted z.inputs z.cell z.cells F) where
  abbrev n : ℕ
  n = z.inputs

  abbrev cs : List Cell
  cs = S.used.cells

  abbrev h : Variable → Bool
  h = means z.inputs F row S.used.cells

  -- ---- 10
  pub used_later : (i : ℕ) → i + 1 < z.cells
      → OneTrue z h (list_of (z.cells - (i + 1)) (λ k. Said (Reads (i + 1 + k) (n + i))))
  used_later i l =
      let r = S.used.read i l in
      let a = r.later in
      let b : r.reader < z.cells = omega (arith, r.within, S.used.count) in
      let e : i + 1 + (r.reader - (i + 1)) ≡ r.reader = omega arith in
      true_list z h (z.cells - (i + 1)) (λ k. Said (Reads (i + 1 + k) (n + i))) (r.reader - (i + 1)) (omega arith)
      (omega arith, omega arith) (ap (λ (j : ℕ). does_read cs j (n + i)) e ∙ r.reads)

  module _ (p q : ℕ) (less : p < q) (input : q < z.inputs) where
    -- ---- 11
    pub swap : swappable n F p q ≡ true → OneTrue z h (Said (Same p q 0) ∷ [])
    swap e = said z h (omega arith, input, omega arith) (ap (λ (t : Bool). t && true) e)

    module _ (i : ℕ) (cell : i < z.cells) where
      -- the first cell that reads just one of them reads p
      first : h (Same p q i) ≡ true → does_read cs i q ≡ true → does_read cs i p ≡ true
      first e = S.sorted p q less input
          ((swappable_is n F p q).0 (and_left (swappable n F p q) (read_alike cs p q i) e)) i
          (omega (arith, S.used.count))
          (λ j l. beq_same (does_read cs j p) (does_read cs j q)
          (every_at i (λ j. beq (does_read cs j p) (does_read cs j q))
          (and_right (swappable n F p q) (read_alike cs p q i) e) j l))

      -- so they stay the same where a cell reads both or neither
      still : h (Same p q i) ≡ true → does_read cs i p ≡ does_read cs i q → h (Same p q (i + 1)) ≡ true
      still e r =
          ap₂ ◌&&◌ (and_left (swappable n F p q) (read_alike cs p q i) e)
          (every_more i (λ j. beq (does_read cs j p) (does_read cs j q))
          (and_right (swappable n F p q) (read_alike cs p q i) e) (same-beq (does_read cs i p) (does_read cs i q) r))

      -- ---- 12
      pub in_order_lem : OneTrue z h (Denied (Same p q i) ∷ Denied (Reads i q) ∷ Said (Reads i p) ∷ [])
      in_order_lem =
          either z h (Same p q i)
          (λ e. either z h (Reads i q) (λ r. next (next (said z h (cell, omega arith) (first e r))))
          (λ r. next (denied z h (cell, omega arith) r)))
          (λ e. denied z h (omega arith, input, omega arith) e)

      -- ---- 13
      pub both : OneTrue z h (Denied (Same p q i) ∷ Denied (Reads i q) ∷ Said (Same p q (i + 1)) ∷ [])
      both =
          either z h (Same p q i)
          (λ e. either z h (Reads i q)
          (λ r. next (next (said z h (omega arith, input, omega arith) (still e (first e r ∙ sym r)))))
          (λ r. next (denied z h (cell, omega arith) r)))
          (λ e. denied z h (omega arith, input, omega arith) e)

      -- ---- 14
      pub neither : OneTrue z h (Denied (Same p q i) ∷ Said (Reads i p) ∷ Said (Same p q (i + 1)) ∷ [])
      neither =
          either z h (Same p q i)
          (λ e. either z h (Reads i p) (λ r. next (said z h (cell, omega arith) r))
          (λ r. next (next (said z h (omega arith, input, omega arith)
          (still e (r ∙ sym (false_of (does_read cs i q) (λ t. clash (first e t) r))))))))
          (λ e. denied z h (omega arith, input, omega arith) e)
