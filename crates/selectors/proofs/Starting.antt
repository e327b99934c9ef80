-- The cofactors and what is to come make the sheet of cofactors. Assumes nothing.
use mathlib.Core.Path.{◌≡◌, refl, sym, ap, ap₂, ◌∙◌, fun_ext}
use mathlib.Core.Bool.{Bool, true, false, cond}
use mathlib.Core.List.{List, [], ◌++◌}
use Prim.Native.Nat.{ℕ, ◌+◌, ◌-◌, ◌*◌, ◌^◌, ◌<◌, ◌≤◌}
use native.Mathlib.Nat.{suc-mul, mul-le-mul_right}
use native.Mathlib.Omega.{arith}
use lib.Dec.{leb}
use lib.ListN.{length, get_or, length-append}
use lib.Pow.{pow-add}
use Rattle.bits.specs.Numbers.{bit, number}
use Rattle.bits.specs.Lists.{list_of}
use Rattle.bits.proofs.Numbers.{number_ext, bit-number}
use Rattle.bits.proofs.Lists.{length-list, list_at, list_ext}
use Rattle.tables.specs.Table.{table_bit}
use Rattle.sheets.specs.declared.kinds.Sheet.{Sheet}
use Rattle.sheets.specs.Held.{cells_of}
use Rattle.sheets.specs.Network.{Cell}
use Rattle.cofactors.specs.Cofactors.{cofactor, levels, by_ones, by_twos, widths, cofactor_cells}
use Rattle.cofactors.specs.Cofactors.{cofactor_count}
use Rattle.cofactors.specs.Chosen.{Near}
use Rattle.cofactors.proofs.Count.{cofactors_count, count_most}
use Rattle.making.specs.declared.signals.Signals.{Signals}
use Rattle.making.specs.Stage.{signals_of}
use Rattle.selectors.specs.declared.select.Stand.{Stand}
use Rattle.selectors.specs.Standing.{part_bit, part_cell, spaced, from, ahead, InRoom}

module _ (k n : ℕ) (l : Signals) (t : List ℕ) (near : Near k l.count) where
  abbrev c : ℕ
  c = l.count

  abbrev s : ℕ
  s = c - k

  abbrev T : ℕ
  T = number (2 ^ c) (table_bit t)

  abbrev read : List ℕ
  read = list_of k (λ j. get_or l.at j 0)

  count : length (signals_of l) ≡ l.count
  count = length-list c (λ j. get_or l.at j 0)

  -- the parts are the cofactors
  parts : (v : ℕ) → v < 2 ^ s → part_cell read t k v ≡ cofactor k (signals_of l) T v
  parts v h =
      ap₂ (λ (l : List ℕ) (T : ℕ). record { signals = l; table = T })
      (list_ext k (λ j. get_or l.at j 0) (λ j. get_or (signals_of l) j 0)
      (λ j g. sym (list_at c (λ j. get_or l.at j 0) j 0 (omega (arith, near.more)))))
      (number_ext (2 ^ k) (part_bit t k v) (λ y. bit T (v * 2 ^ k + y)) (λ y g.
      sym (bit-number (2 ^ c) (table_bit t) (v * 2 ^ k + y) (inside y g))))
    where
      inside : (y : ℕ) → y < 2 ^ k → v * 2 ^ k + y < 2 ^ l.count
      inside y g =
          let e : (l.count - k) + k ≡ l.count = omega (arith, near.more) in
          omega (
            arith,
            suc-mul v (2 ^ k),
            mul-le-mul_right (2 ^ k) h,
            pow-add 2 (l.count - k) k,
            ap (λ (j : ℕ). 2 ^ j) e,
          )

  -- what is to come after them
  abbrev coming : List Cell
  coming = levels (leb 3 k) (n + 2 ^ s) (widths k s) (from (signals_of l) k) (spaced n 1)

  starts : list_of (2 ^ s) (part_cell read t k) ++ coming ≡ cofactor_cells k n (signals_of l) T
  unfolding cofactor_cells
  starts =
      ap₂ (λ (a : List Cell) (f : ℕ → ℕ). a ++ levels (leb 3 k) (n + 2 ^ s) (widths k s) (from (signals_of l) k) f)
      (list_ext (2 ^ s) (part_cell read t k) (cofactor k (signals_of l) T) parts)
      (fun_ext (λ x. let e : n + 1 * x ≡ n + x = omega arith in e))
      ∙ ap (λ (m : ℕ). list_of (2 ^ m) (cofactor k (signals_of l) T) ++ levels (leb 3 k) (n + 2 ^ m) (widths k m)
      (from (signals_of l) k) (λ v. n + v)) (ap (λ (m : ℕ). m - k) (sym count))

  -- a sheet has room for them all
  room : 2 ^ s + length coming ≤ 15
  room =
      let cells = cofactors_count k n (signals_of l) T (omega (arith, near.more, count)) (omega (arith, near.few, count)) in
      let e : length (signals_of l) - k ≡ s = omega (arith, count) in
      omega (
        arith,
        length-append (list_of (2 ^ s) (part_cell read t k)) coming,
        length-list (2 ^ s) (part_cell read t k),
        ap length starts,
        cells,
        ap (cofactor_count k) e,
        (count_most k s (omega (arith, near.more)) (omega (arith, near.few))).1,
      )

  -- few signals select
  pub few_left : l.count - k ≤ 3
  few_left = omega (arith, near.few, go (leb 3 k))
    where
      go : (t : Bool) → cond t 3 2 ≤ 3
      go true = omega arith
      go false = omega arith

  -- so the work begins
  pub begins : (sheet : Sheet) (m : ℕ) → m ≡ 2 ^ (l.count - k) → cells_of sheet ≡ list_of m (part_cell read t k)
      → sheet.count ≡ m → n ≤ 16 → k ≤ 16
      → (cells_of sheet ++ levels (leb 3 k) (n + m) (widths k (l.count - k)) (from (signals_of l) k) (spaced n 1)
      ≡ cofactor_cells k n (signals_of l) (number (2 ^ l.count) (table_bit t)))
      × InRoom k l (record { sheet = sheet; at = k; left = l.count - k; base = n; step = 1; next = n + m })
  begins sheet m e cells long h g =
      let same : levels (leb 3 k) (n + m) (widths k s) (from (signals_of l) k) (spaced n 1) ≡ coming =
      ap (λ (m : ℕ). levels (leb 3 k) (n + m) (widths k s) (from (signals_of l) k) (spaced n 1)) e in
      let sum : length (levels (leb 3 k) (n + m) (widths k s) (from (signals_of l) k) (spaced n 1)) ≡ length coming =
      ap length same in (
        ap₂ (λ (a b : List Cell). a ++ b) (cells ∙ ap (λ (m : ℕ). list_of m (part_cell read t k)) e) same ∙ starts,
        record {
          few = omega (arith, room);
          left = few_left;
          places = omega (arith, near.more);
          base = omega arith;
          step = omega arith;
          next = omega (arith, room);
        },
      )

-- and so it ends
pub none_left : (k : ℕ) (l : Signals) (s : Stand) → s.left ≡ 0 → ahead k l s ≡ []
unfolding levels
none_left k l s e =
    ap (λ (ws : List ℕ). levels (leb 3 k) s.next ws (from (signals_of l) s.at) (spaced s.base s.step))
    (ap (widths k) e ∙ go (leb 6 k))
  where
    go : (t : Bool) → cond t (by_twos 0) (by_ones 0) ≡ []
    go true = refl
    go false = refl
