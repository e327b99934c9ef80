-- One level more: the cells so far and those to come stay the same, and a sheet still has room. Assumes nothing.
use mathlib.Core.Path.{◌≡◌, sym, ap, ap₂, ◌∙◌, fun_ext}
use mathlib.Core.List.{List, ◌++◌, append_assoc}
use Prim.Native.Nat.{ℕ, ◌+◌, ◌-◌, ◌*◌, ◌^◌, ◌≤◌}
use native.Mathlib.Nat.{mul-le-mul_left, mul-one}
use native.Mathlib.Omega.{arith}
use lib.Dec.{leb}
use lib.ListN.{length, get_or, length-append}
use lib.Pow.{pow_pos}
use Rattle.sheets.specs.declared.kinds.Sheet.{Sheet}
use Rattle.sheets.specs.Network.{Cell}
use Rattle.sheets.specs.Held.{cells_of}
use Rattle.cofactors.specs.Cofactors.{cells_each, join_of, levels, widths}
use Rattle.cofactors.proofs.Levels.{group, level-length}
use Rattle.cofactors.proofs.Cofactors.{widths-total}
use Rattle.making.specs.declared.signals.Signals.{Signals}
use Rattle.making.specs.Stage.{signals_of}
use Rattle.selectors.specs.declared.select.Stand.{Stand}
use Rattle.selectors.specs.Standing.{spaced, from, ahead, InRoom, OneLevel, NextWidth}
use Rattle.selectors.proofs.Widths.{some_width, few_each}

module _ (k : ℕ) (l : Signals) (s : Stand) (w : ℕ) (width : NextWidth k s.left w) where
  abbrev p : ℕ
  p = cells_each (leb 3 k)

  abbrev m : ℕ
  m = 2 ^ (s.left - w)

  abbrev q : ℕ → ℕ
  q = from (signals_of l) s.at

  abbrev f : ℕ → ℕ
  f = spaced s.base s.step

  -- the next level's cells
  abbrev here : List Cell
  here = join_of m (group (leb 3 k) s.next w (s.left - w) q f)

  -- and those after it
  abbrev later : List Cell
  later = levels (leb 3 k) (s.next + p * m) (widths k (s.left - w)) (from (signals_of l) (s.at + w))
      (spaced (s.next + p - 1) p)

  splits : ahead k l s ≡ here ++ later
  unfolding levels
  splits =
      ap (λ (ws : List ℕ). levels (leb 3 k) s.next ws q f) width.widths
      ∙ ap (λ (j : ℕ). join_of (2 ^ j) (group (leb 3 k) s.next w j q f)
      ++ levels (leb 3 k) (s.next + p * 2 ^ j) (widths k (s.left - w)) (λ t. q (w + t))
      (λ g. s.next + p * g + (p - 1))) (widths-total k (s.left - w))
      ∙ ap₂ (λ (a b : ℕ → ℕ). here ++ levels (leb 3 k) (s.next + p * m) (widths k (s.left - w)) a b)
      (fun_ext (λ t. ap (λ (j : ℕ). get_or (signals_of l) j 0)
      (let e : s.at + (w + t) ≡ s.at + w + t = omega arith in e)))
      (fun_ext (λ g. let e : s.next + p * g + (p - 1) ≡ s.next + p - 1 + p * g = omega (arith, (few_each k).0) in e))

  long : length (ahead k l s) ≡ p * m + length later
  long = ap length splits ∙ length-append here later
      ∙ ap (λ (n : ℕ). n + length later) (level-length (leb 3 k) s.next w (s.left - w) q f)

  module _ (room : InRoom k l s) (some : 1 ≤ s.left) where
    -- room for the level
    pub level-room : s.next + p * m ≤ 100
    level-room = omega (arith, long, room.next)

    pub level_few : s.sheet.count + p * m ≤ 15
    level_few = omega (arith, long, room.few)

    pub level_places : s.at + w ≤ l.count
    level_places = omega (arith, room.places, width.within)

    module _ (sheet : Sheet) (cells : cells_of sheet ≡ cells_of s.sheet ++ here) (count : sheet.count
        ≡ s.sheet.count + p * m) where
      abbrev r : Stand
      r = record {
        sheet = sheet;
        at = s.at + w;
        left = s.left - w;
        base = s.next + p - 1;
        step = p;
        next = s.next + p * m;
      }

      pub one-level : OneLevel k l s r
      one-level =
          let each = few_each k in
          let one = some_width width.fits in
          let whole : p * 1 ≤ p * m = mul-le-mul_left p (pow_pos (s.left - w)) in
          record {
            cells = ap (λ (l : List Cell). l ++ later) cells ∙ append_assoc (cells_of s.sheet) here later
                ∙ ap (λ (l : List Cell). cells_of s.sheet ++ l) (sym splits);
            room = record {
              few = omega (arith, long, room.few, count);
              left = omega (arith, room.left);
              places = omega (arith, room.places, width.within);
              base = omega (arith, mul-one p);
              step = each.1;
              next = omega (arith, long, room.next);
            };
            fewer = omega (arith, width.within);
          }
