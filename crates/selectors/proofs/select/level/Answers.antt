-- The loop keeps that the groups so far stand behind what was held. Assumes nothing.
use mathlib.Core.Path.{◌≡◌, sym, ap, ap₂, ◌∙◌}
use mathlib.Core.List.{List, ◌++◌, append_assoc, append-nil}
use Prim.Native.Nat.{ℕ, ◌+◌, ◌*◌, ◌%◌, ◌^◌, ◌<◌, ◌≤◌}
use native.Mathlib.Nat.{mul-suc, mul-le-mul_left, mul_comm, mod-eq_of_lt, mul-zero}
use native.Mathlib.Numerals.{add-one}
use native.Mathlib.Omega.{arith}
use lib.Dec.{leb}
use Rattle.sheets.specs.Network.{Cell}
use Rattle.sheets.specs.Held.{cells_of}
use Rattle.cofactors.specs.Cofactors.{selecting, cells_each, join_of}
use Rattle.making.specs.Stage.{signals_of}
use Rattle.selectors.specs.Standing.{spaced, from}
use Rattle.selectors.proofs.Widths.{few_width}
use Rattle.selectors.proofs.select.level.Invariants.{group_of}
use Rattle.selectors.proofs.select.level.Goals as goal

join_more : (g : ℕ) (h : ℕ → List Cell) → join_of (g + 1) h ≡ join_of g h ++ h g
unfolding join_of
join_more g h = ap (λ (m : ℕ). join_of m h) (add-one g)

pub loop-g-init : goal.loop-g-init
unfolding join_of
loop-g-init c =
    (sym (append-nil _), omega (arith, mul-zero (cells_each (leb 3 c.args.k))))

-- group q of so many, each of p cells, within the level
module _ (p q w many : ℕ) (less : q < many) where
  more_cells : p * q + p ≤ p * many
  more_cells = omega (arith, mul-suc p q, mul-le-mul_left p less)

  more_signals : 2 ^ w * many ≤ 8 → 2 ^ w * q + 2 ^ w ≤ 8
  more_signals h = omega (arith, mul-suc (2 ^ w) q, mul-le-mul_left (2 ^ w) less)

  -- its first signal, as the machine has it
  shifted : 2 ^ w * many ≤ 8 → q * 2 ^ w % 256 ≡ 2 ^ w * q
  shifted h = mod-eq_of_lt (omega (arith, more_signals h, mul_comm q (2 ^ w))) ∙ mul_comm q (2 ^ w)

-- where it starts
product : {each p : ℕ} → each ≡ p → (q : ℕ) → each * q ≡ p * q
product e q = ap (λ (m : ℕ). m * q) e

pub overflow_mul-next : goal.overflow_mul-next
overflow_mul-next c =
    let a = c.args in
    let q = c.loop-g.g in
    omega (arith, product c.cells_each-each.ensures.0 q, more_cells (cells_each (leb 3 a.k)) q a.w a.many (omega arith), c.requires.3.next)

pub overflow_add-next : goal.overflow_add-next
overflow_add-next c =
    let a = c.args in
    let q = c.loop-g.g in
    omega (arith, product c.cells_each-each.ensures.0 q, more_cells (cells_each (leb 3 a.k)) q a.w a.many (omega arith), c.requires.3.next)

pub overflow_cast-w : goal.overflow_cast-w
overflow_cast-w c = omega (arith, few_width c.requires.1)

pub overflow_shl-g : goal.overflow_shl-g
overflow_shl-g c = omega (arith, few_width c.requires.1)

pub select-sheet-requires : goal.select-sheet-requires
select-sheet-requires c =
    let a = c.args in
    let q = c.loop-g.g in
    let less : q < a.many = omega arith in
    let cells = more_cells (cells_each (leb 3 a.k)) q a.w a.many less in (
      omega (arith, c.loop-g.invariant.1, cells, c.requires.0),
      c.requires.1,
      c.requires.2,
      record {
        base = c.requires.3.base;
        step = c.requires.3.step;
        next = omega (arith, product c.cells_each-each.ensures.0 q, cells, c.requires.3.next);
      },
      omega (
        arith,
        shifted (cells_each (leb 3 a.k)) q a.w a.many less c.requires.4,
        more_signals (cells_each (leb 3 a.k)) q a.w a.many less c.requires.4,
      ),
    )

pub loop-g-preserved : goal.loop-g-preserved
loop-g-preserved c =
    let a = c.args in
    let s = a.s in
    let i = c.loop-g.invariant in
    let q = c.loop-g.g in
    let p = cells_each (leb 3 a.k) in
    let h = group_of a.k a.w s.next (signals_of a.l) s.at s.base s.step in (
      c.select-sheet.ensures.0
          ∙ ap₂ (λ (l m : List Cell). l ++ m) i.0
          (ap₂ (λ (n x : ℕ). selecting (leb 3 a.k) a.w (s.next + n) (from (signals_of a.l) s.at)
          (λ t. spaced s.base s.step (x + t))) (product c.cells_each-each.ensures.0 q)
          (shifted p q a.w a.many (omega arith) c.requires.4))
          ∙ append_assoc (cells_of s.sheet) (join_of q h) (h q)
          ∙ ap (λ (l : List Cell). cells_of s.sheet ++ l) (sym (join_more q h)),
      omega (arith, c.select-sheet.ensures.1, i.1, mul-suc p q, ap (λ (m : ℕ). p * m) (add-one q)),
    )

pub returns : goal.returns
returns c =
    let i = c.loop-g.invariant in
    let a = c.args in
    let e : c.loop-g.g ≡ a.many = omega arith in
    let h = group_of a.k a.w a.s.next (signals_of a.l) a.s.at a.s.base a.s.step in (
      i.0 ∙ ap (λ (m : ℕ). cells_of a.s.sheet ++ join_of m h) e,
      i.1 ∙ ap (λ (m : ℕ). a.s.sheet.count + cells_each (leb 3 a.k) * m) e,
    )
