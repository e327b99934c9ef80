-- A header that is in order, and one that isn't. Assumes nothing.
use mathlib.Core.Path.{◌≡◌, refl, sym, ap, ap₂, ◌∙◌}
use mathlib.Core.Bool.{Bool, true, false, ◌&&◌}
use mathlib.Core.List.{List}
use Prim.Native.Nat.{ℕ, ◌+◌, ◌*◌, ◌^◌, ◌<◌, ◌≤◌}
use native.Mathlib.Omega.{arith}
use lib.Dec.{leb, ltb}
use lib.ListN.{length}
use borrow.Author.Tests.{le-leb, lt-leb, leb-true, ltb-true}
use Rattle.bits.specs.Below.{every}
use Rattle.bits.proofs.Below.{every_at}
use Rattle.bits.proofs.Bools.{and_left, and_right}
use Rattle.clauses.specs.Step.{rows_in, row_at}
use Rattle.refuting.specs.Steps.{most_rows, header_in_order}

module _ (n : ℕ) (c : List ℕ) where
  abbrev R : ℕ
  R = rows_in c

  abbrev rows : Bool
  rows = every R (λ a. ltb (row_at c a) (2 ^ n))

  abbrev all : Bool → Bool → Bool → Bool
  all a b d = a && (b && (d && rows))

  first_off : (b d : Bool) → all false b d ≡ false
  first_off b d = refl

  second-off : (a d : Bool) → all a false d ≡ false
  second-off true d = refl
  second-off false d = refl

  third-off : (a b : Bool) → all a b false ≡ false
  third-off true true = refl
  third-off true false = refl
  third-off false b = refl

  -- no row, too many, or not all there
  pub no_rows : R ≡ 0 → false ≡ header_in_order n c
  unfolding header_in_order
  no_rows h = sym (ap (λ (a : Bool). all a (leb R most_rows) (leb (2 + 2 * R) (length c))) (lt-leb 1 R (omega arith)))

  pub many_rows : most_rows < R → false ≡ header_in_order n c
  unfolding header_in_order
  many_rows h = sym (ap (λ (b : Bool). all (leb 1 R) b (leb (2 + 2 * R) (length c))) (lt-leb R most_rows h)
      ∙ second-off (leb 1 R) (leb (2 + 2 * R) (length c)))

  pub cut_rows : length c < 2 + 2 * R → false ≡ header_in_order n c
  unfolding header_in_order
  cut_rows h = sym (ap (λ (d : Bool). all (leb 1 R) (leb R most_rows) d) (lt-leb (2 + 2 * R) (length c) h)
      ∙ third-off (leb 1 R) (leb R most_rows))

  pub by_rows : 1 ≤ R → R ≤ most_rows → 2 + 2 * R ≤ length c → rows ≡ header_in_order n c
  unfolding header_in_order
  by_rows h k l =
      sym (ap₂ (λ (a b : Bool). all a b (leb (2 + 2 * R) (length c))) (le-leb 1 R h) (le-leb R most_rows k)
      ∙ ap (λ (d : Bool). d && rows) (le-leb (2 + 2 * R) (length c) l))

  -- what a header in order has
  module _ (h : header_in_order n c ≡ true) where
    abbrev last : Bool
    last = leb (2 + 2 * R) (length c) && rows

    tail : (leb R most_rows && last) ≡ true
    unfolding header_in_order
    tail = and_right (leb 1 R) (leb R most_rows && last) h

    pub few_rows : R ≤ most_rows
    few_rows = leb-true R most_rows (and_left (leb R most_rows) last tail)

    pub rows_there : 2 + 2 * R ≤ length c
    rows_there = leb-true (2 + 2 * R) (length c) (and_left (leb (2 + 2 * R) (length c)) rows (and_right (leb R most_rows) last tail))

    pub rows_below : (a : ℕ) → a < R → row_at c a < 2 ^ n
    rows_below a l =
        ltb-true (row_at c a) (2 ^ n) (every_at R (λ a. ltb (row_at c a) (2 ^ n))
        (and_right (leb (2 + 2 * R) (length c)) rows (and_right (leb R most_rows) last tail)) a l)
