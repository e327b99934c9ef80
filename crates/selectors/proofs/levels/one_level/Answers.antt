-- `one_level` meets its contract: the level's cells are the next of those to come. Assumes nothing.
use mathlib.Core.Path.{◌≡◌, sym, ap, ap₂, ◌∙◌, subst, subst₂}
use mathlib.Core.List.{◌++◌}
use Prim.Native.Nat.{ℕ, ◌+◌, ◌-◌, ◌*◌, ◌%◌, ◌^◌, ◌≤◌}
use native.Mathlib.Omega.{arith}
use lib.Dec.{leb}
use lib.Pow.{pow-add, pow_mono}
use Rattle.bits.proofs.Machine.{shl_one}
use Rattle.sheets.specs.Held.{cells_of}
use Rattle.cofactors.specs.Cofactors.{cells_each, join_of}
use Rattle.cofactors.proofs.Levels.{group}
use Rattle.making.specs.Stage.{signals_of}
use Rattle.making.specs.declared.signals.Signals.{Signals}
use Rattle.selectors.specs.declared.select.Stand.{Stand}
use Rattle.selectors.specs.Standing.{spaced, from, NextWidth, InRoom, OneLevel}
use Rattle.selectors.proofs.Standing.{level-room, level_few, level_places, one-level}
use Rattle.selectors.proofs.levels.one_level.Goals as goal

-- the width is known, and with it how many groups there are
module _ (k : ℕ) (l : Signals) (s : Stand) (w : ℕ) (v : NextWidth k s.left w) (i : InRoom k l s) (some : 1 ≤ s.left)
  where
    abbrev m : ℕ
    m = 2 ^ (s.left - w)

    abbrev p : ℕ
    p = cells_each (leb 3 k)

    many : 1 * 2 ^ (s.left - w) % 2 ^ 8 ≡ 2 ^ (s.left - w)
    many = shl_one 8 (s.left - w) (omega (arith, i.left))

    room : s.next + p * m ≤ 100
    room = level-room k l s w v i some

    few : s.sheet.count + p * m ≤ 15
    few = level_few k l s w v i some

    all : 2 ^ w * m ≤ 8
    all =
        let e : w + (s.left - w) ≡ s.left = omega (arith, v.within) in
        omega (
          arith,
          pow-add 2 w (s.left - w),
          ap (λ (j : ℕ). 2 ^ j) e,
          pow_mono {i = s.left} {j = 3} i.left,
        )

    -- each times many, as the machine has it
    product : {each : ℕ} → each ≡ p → each * (1 * 2 ^ (s.left - w) % 2 ^ 8) ≡ p * m
    product e = ap₂ ◌*◌ e many

pub level-requires : goal.level-requires
level-requires c =
    let a = c.args in
    let w = c.width-w.result in
    let v = c.width-w.ensures in
    let i = c.requires.1 in
    let back = sym (many a.k a.l a.s w v i c.requires.2) in (
      subst (λ (m : ℕ). a.s.sheet.count + cells_each (leb 3 a.k) * m ≤ 15) back (few a.k a.l a.s w v i c.requires.2),
      v.fits,
      level_places a.k a.l a.s w v i c.requires.2,
      record {
        base = omega (arith, i.base, i.next);
        step = i.step;
        next = subst (λ (m : ℕ). a.s.next + cells_each (leb 3 a.k) * m ≤ 100) back
            (room a.k a.l a.s w v i c.requires.2);
      },
      subst (λ (m : ℕ). 2 ^ w * m ≤ 8) back (all a.k a.l a.s w v i c.requires.2),
    )

pub overflow_mul-result : goal.overflow_mul-result
overflow_mul-result c =
    let a = c.args in
    let v = c.width-w.ensures in
    omega (
      arith,
      product a.k a.l a.s c.width-w.result v c.requires.1 c.requires.2 c.cells_each-each.ensures.0,
      room a.k a.l a.s c.width-w.result v c.requires.1 c.requires.2,
    )

pub overflow_add-result-3 : goal.overflow_add-result-3
overflow_add-result-3 c =
    let a = c.args in
    let v = c.width-w.ensures in
    omega (
      arith,
      product a.k a.l a.s c.width-w.result v c.requires.1 c.requires.2 c.cells_each-each.ensures.0,
      room a.k a.l a.s c.width-w.result v c.requires.1 c.requires.2,
    )

pub returns : goal.returns
returns c =
    let a = c.args in
    let s = a.s in
    let x = c.width-w.result in
    let v = c.width-w.ensures in
    let sheet = c.level.result in
    let times = many a.k a.l s x v c.requires.1 c.requires.2 in
    let h = group (leb 3 a.k) s.next x (s.left - x) (from (signals_of a.l) s.at)
    (spaced s.base s.step) in
    subst₂ (λ (e j : ℕ). OneLevel a.k a.l s (record {
      sheet = sheet;
      at = s.at + x;
      left = s.left - x;
      base = s.next + e - 1;
      step = e;
      next = s.next + e * j;
    })) (sym c.cells_each-each.ensures.0) (sym times)
    (one-level a.k a.l s x v c.requires.1 c.requires.2 sheet
    (c.level.ensures.0 ∙ ap (λ (m : ℕ). cells_of s.sheet ++ join_of m h) times)
    (c.level.ensures.1 ∙ ap (λ (m : ℕ). s.sheet.count + cells_each (leb 3 a.k) * m) times))
