-- A good sheet's cells fit an edition of cells as large or larger; written in it they say the same. Assumes nothing.
use mathlib.Core.Path.{◌≡◌, sym, ap, ◌∙◌, subst}
use mathlib.Core.Bool.{false}
use mathlib.Core.List.{List}
use Prim.Native.Nat.{ℕ, zero, suc, ◌+◌, ◌-◌, ◌^◌, ◌<◌, ◌≤◌}
use native.Mathlib.Nat.{add-zero, add-suc}
use native.Mathlib.Omega.{arith}
use lib.ListN.{get_or}
use Rattle.bits.specs.Numbers.{bit, number}
use Rattle.bits.specs.Below.{least}
use Rattle.bits.specs.Lists.{list_of}
use Rattle.bits.proofs.Numbers.{number_lt}
use Rattle.bits.proofs.Lists.{length-list, list_at}
use Rattle.tables.specs.Table.{table_of}
use Rattle.sheets.specs.declared.kinds.Edition.{Edition}
use Rattle.sheets.specs.Network.{Cell, run}
use Rattle.sheets.specs.Edition.{IsEdition}
use Rattle.sheets.specs.Record.{Keeps, cell_bit, cell_of}
use Rattle.sheets.specs.Sheet.{record_at, cells_from, sheet_cells, sheet_bit, rebuilt, Good}
use Rattle.sheets.specs.Reading.{unread_cell, EachRead}
use Rattle.sheets.specs.Writing.{Fits, FitsFrom}
use Rattle.sheets.specs.Desk.{desk_of}
use Rattle.sheets.proofs.Looks.{record_keeps}
use Rattle.sheets.proofs.Wiring.{cells_length}
use Rattle.sheets.proofs.Wholes.{cells_back, sheet_good}
use Rattle.sheets.proofs.Desks.{desk_most, good_desk}
use Rattle.sheets.proofs.Unread.{each_read, none-unread}
use Rattle.rewriting.specs.Rewrite.{rewritten, SaysTheSame}

module _ (e f : Edition) (larger : e.most ≤ f.most) (d : ℕ) where
  -- the cell of a record that keeps the rules
  keeps_fits : (top : ℕ) (b : ℕ → ℕ) → Keeps e d top b → Fits f top (cell_of e b)
  unfolding cell_of
  keeps_fits top b k =
      let l = length-list (b 0) (λ j. b (j + 1)) in
      let at : (j : ℕ) → j < b 0 → get_or (list_of (b 0) (λ j. b (j + 1))) j 0
      ≡ b (j + 1) = λ j h. list_at (b 0) (λ j. b (j + 1)) j 0 h in
      record {
        some = omega (arith, k.some, l);
        most = omega (arith, k.most, larger, l);
        known = λ j h. subst (λ (v : ℕ). v < top) (sym (at j (omega arith))) (k.known j (omega arith));
        rising = λ j h. omega (
          arith,
          at j (omega arith),
          at (j + 1) (omega arith),
          k.rising (j + 1) (omega arith)
              (omega arith),
        );
        table = subst (λ (h : ℕ). number (2 ^ b 0) (cell_bit e b) < 2 ^ (2 ^ h)) (sym l)
            (number_lt (2 ^ b 0) (cell_bit e b));
      }

  fits_from : (n : ℕ) (s : List ℕ) (m i : ℕ) → ((j : ℕ) → i ≤ j → j < i + m → Keeps e d (n + j) (record_at e s j))
      → FitsFrom f (n + i) (cells_from e s i m)
  unfolding cells_from
  fits_from n s zero i k = tt
  fits_from n s (suc m) i k = (
    keeps_fits (n + i) (record_at e s i) (k i (omega arith) (omega arith)),
    subst (λ (t : ℕ). FitsFrom f t (cells_from e s (suc i) m)) (add-suc n i)
        (fits_from n s m (suc i) (λ j p q. k j (omega arith) (omega arith))),
  )

module _ (e f : Edition) (o : IsEdition e) (p : IsEdition f) (larger : e.most ≤ f.most) (d n : ℕ) (s : List ℕ) (m : ℕ)
    (g : Good e d n s m) where
  pub cells_fit : FitsFrom f n (sheet_cells e s m)
  cells_fit =
      subst (λ (k : ℕ). FitsFrom f k (sheet_cells e s m)) (add-zero n)
      (fits_from e f larger d n s m 0 (λ j a b. record_keeps e o d n s m g.rules j (omega arith)))

  same_cells : sheet_cells f (rewritten e f d s m) m ≡ sheet_cells e s m
  same_cells =
      ap (sheet_cells f (rewritten e f d s m)) (sym (cells_length e s 0 m))
      ∙ cells_back f d p n (sheet_cells e s m) cells_fit

  same-table : rebuilt f n (rewritten e f d s m) m ≡ rebuilt e n s m
  unfolding rebuilt sheet_bit
  same-table = ap (λ (cs : List Cell). table_of n (λ x. run false n cs (bit x))) same_cells

  good_there : Good f d n (rewritten e f d s m) m
  good_there =
      let q = cells_length e s 0 m in
      subst (Good f d n (rewritten e f d s m)) q
      (sheet_good f d p n (sheet_cells e s m) cells_fit (subst (λ (k : ℕ). 1 ≤ k) (sym q) g.some)
      (omega (arith, g.most, q)))

  read_there : EachRead e n s m → EachRead f n (rewritten e f d s m) m
  read_there r =
      each_read f (rewritten e f d s m) n m
      (ap (λ (cs : List Cell). least (m - 1) (unread_cell n cs)) same_cells ∙ none-unread e s n m r)

-- for its own desk
pub widened : (e f : Edition) → IsEdition e → IsEdition f → e.most ≤ f.most → (n : ℕ) (s : List ℕ) (m : ℕ)
    → Good e (desk_of e s) n s m → SaysTheSame e f n s (rewritten e f (desk_of e s) s m) m
widened e f o p larger n s m g =
    let d = desk_of e s in
    let w = good_there e f o p larger d n s m g in
    record {
      rules = w;
      read = read_there e f o p larger d n s m g;
      desk = good_desk f n (rewritten e f d s m) p m d (desk_most e s) w;
      table = same-table e f o p larger d n s m g;
    }
