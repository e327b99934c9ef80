-- Kinds 1 to 4: how many signals a cell reads. Assumes nothing.
use mathlib.Core.Path.{◌≡◌, ap}
use mathlib.Core.Bool.{Bool}
use mathlib.Core.List.{List, [], ◌∷◌}
use Prim.Native.Nat.{ℕ, ◌+◌, ◌<◌, ◌≤◌}
use native.Mathlib.Omega.{arith}
use lib.ListN.{length}
use borrow.Author.Tests.{leb-true, le-leb, lt-leb}
use Rattle.bits.specs.Numbers.{val}
use Rattle.bits.specs.Sets.{size}
use Rattle.bits.proofs.Sizes.{size_more}
use Rattle.sheets.specs.Network.{Cell, Wired}
use Rattle.networks.specs.Signals.{cell_at, does_read}
use Rattle.networks.proofs.Values.{size-member, reads_most}
use Rattle.clauses.specs.declared.variables.Size.{Size}
use Rattle.clauses.specs.declared.variables.Variable.{Variable}
use Rattle.clauses.specs.declared.variables.Variable.TheVariants.{Reads, Many}
use Rattle.clauses.specs.declared.variables.Literal.TheVariants.{Said, Denied}
use Rattle.truths.specs.Meaning.{means}
use Rattle.truths.proofs.OneTrue.{OneTrue, next, either, said, denied}

module _ (z : Size) (F : ℕ → Bool) (row : ℕ → ℕ) (cs : List Cell) (i : ℕ) (cell : i < z.cells) where
  abbrev n : ℕ
  n = z.inputs

  abbrev h : Variable → Bool
  h = means z.inputs F row cs

  pub one_more : (p t : ℕ) → p < n + i → t ≤ z.cell
      → OneTrue z h (Denied (Reads i p) ∷ Denied (Many i p t) ∷ Said (Many i (p + 1) (t + 1)) ∷ [])
  one_more p t a b =
      either z h (Reads i p)
      (λ r. either z h (Many i p t)
      (λ c. next (next (said z h (cell, omega arith, omega arith)
      (le-leb (t + 1) (size (p + 1) (does_read cs i)) (omega (
        arith,
        size_more p (does_read cs i),
        ap val r,
        leb-true t (size p (does_read cs i)) c,
      ))))))
      (λ c. next (denied z h (cell, omega arith, omega arith) c)))
      (λ r. denied z h (cell, omega arith) r)

  pub as_many : (p t : ℕ) → p < n + i → t ≤ z.cell + 1
      → OneTrue z h (Denied (Many i p t) ∷ Said (Many i (p + 1) t) ∷ [])
  as_many p t a b =
      either z h (Many i p t)
      (λ c. next (said z h (cell, omega arith, omega arith)
      (le-leb t (size (p + 1) (does_read cs i)) (omega (
        arith,
        size_more p (does_read cs i),
        leb-true t (size p (does_read cs i)) c,
      )))))
      (λ c. denied z h (cell, omega arith, omega arith) c)

  pub at_least-none : OneTrue z h (Said (Many i 0 0) ∷ [])
  at_least-none = said z h (cell, omega arith, omega arith) (le-leb 0 (size 0 (does_read cs i)) (omega arith))

  pub at_most : Wired z.cell z.inputs cs → length cs ≡ z.cells
      → OneTrue z h (Denied (Many i (n + i) (z.cell + 1)) ∷ [])
  at_most w all =
      denied z h (cell, omega arith, omega arith)
      (lt-leb (z.cell + 1) (size (n + i) (does_read cs i)) (omega (
        arith,
        size-member (n + i) (cell_at cs i).signals,
        reads_most z.cell n cs w i (omega arith),
      )))
