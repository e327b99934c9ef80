-- A sheet whose records keep the rules is a network: each cell has at most the largest number of signals, each given
-- before it. Assumes nothing.
use mathlib.Core.Path.{◌≡◌, refl, sym, ap, subst}
use mathlib.Core.List.{List}
use Prim.Native.Nat.{ℕ, zero, suc, ◌+◌, ◌<◌, ◌≤◌}
use native.Mathlib.Nat.{add-zero, add-suc}
use native.Mathlib.Omega.{arith}
use lib.ListN.{length}
use Rattle.bits.proofs.Lists.{length-list, list_at}
use Rattle.sheets.specs.declared.kinds.Edition.{Edition}
use Rattle.sheets.specs.Edition.{IsEdition}
use Rattle.sheets.specs.Network.{Wired}
use Rattle.sheets.specs.Record.{Keeps, cell_of}
use Rattle.sheets.specs.Sheet.{record_at, cells_from, sheet_cells, first_bad}
use Rattle.sheets.proofs.Looks.{record_keeps}

-- a sheet of m records has m cells
pub cells_length : (e : Edition) (s : List ℕ) (i m : ℕ) → length (cells_from e s i m) ≡ m
unfolding cells_from
cells_length e s i zero = refl
cells_length e s i (suc m) = ap suc (cells_length e s (suc i) m)

module _ (e : Edition) (d n : ℕ) (s : List ℕ) where
  wired_from : (m i : ℕ) → ((j : ℕ) → i ≤ j → j < i + m → Keeps e d (n + j) (record_at e s j))
      → Wired e.most (n + i) (cells_from e s i m)
  unfolding cells_from cell_of
  wired_from zero i k = tt
  wired_from (suc m) i k =
      let b = record_at e s i in
      let r = k i (omega arith) (omega arith) in
      let l = length-list (b 0) (λ j. b (j + 1)) in (
        subst (λ (h : ℕ). h ≤ e.most) (sym l) r.most,
        λ j h.
            let g : j < b 0 = subst (λ (h : ℕ). j < h) l h in
            subst (λ (v : ℕ). v < n + i) (sym (list_at (b 0) (λ j. b (j + 1)) j 0 g)) (r.known j g),
        subst (λ (t : ℕ). Wired e.most t (cells_from e s (suc i) m)) (add-suc n i)
            (wired_from m (suc i) (λ j p q. k j (omega arith) (omega arith))),
      )

  pub good_wired : IsEdition e → (m : ℕ) → first_bad e d n s m ≡ m → Wired e.most n (sheet_cells e s m)
  good_wired ok m none =
      subst (λ (k : ℕ). Wired e.most k (sheet_cells e s m)) (add-zero n)
      (wired_from m 0 (λ j p q. record_keeps e ok d n s m none j (omega arith)))
