-- The loop keeps that the cells so far and those to come make the sheet of cofactors. Assumes nothing.
use mathlib.Core.Path.{◌≡◌, sym, ap, ap₂, ◌∙◌, subst}
use mathlib.Core.List.{List, [], ◌++◌, append-nil}
use Prim.Native.Nat.{ℕ, ◌+◌, ◌-◌, ◌*◌, ◌%◌, ◌^◌, ◌≤◌}
use native.Mathlib.Omega.{arith}
use lib.ListN.{get_or}
use lib.Pow.{pow-add, pow_mono}
use Rattle.bits.specs.Lists.{list_of}
use Rattle.bits.proofs.Machine.{shl_one}
use Rattle.sheets.specs.Network.{Cell}
use Rattle.sheets.specs.Held.{cells_of}
use Rattle.cofactors.specs.Chosen.{Near}
use Rattle.making.specs.declared.signals.Signals.{Signals}
use Rattle.making.specs.Stage.{signals_of}
use Rattle.selectors.specs.Standing.{part_cell}
use Rattle.selectors.proofs.Starting.{few_left, begins, none_left}
use Rattle.selectors.proofs.levels.cofactor_sheet.Goals as goal

-- how many cofactors there are
module _ (k : ℕ) (l : Signals) (near : Near k l.count) where
  abbrev s : ℕ
  s = l.count - k

  three : s ≤ 3
  three = few_left k 0 l [] near

  many : 1 * 2 ^ s % 2 ^ 32 ≡ 2 ^ s
  many = shl_one 32 s (omega (arith, three))

  eight : 2 ^ s ≤ 8
  eight = pow_mono {i = s} {j = 3} three

  all : 2 ^ s * 2 ^ k ≤ 2 ^ 16
  all =
      let e : s + k ≡ l.count = omega (arith, near.more) in
      omega (arith, pow-add 2 s k, ap (λ (j : ℕ). 2 ^ j) e, pow_mono {i = l.count} {j = 16} l.few)

pub cofactor_cells-requires : goal.cofactor_cells-requires
cofactor_cells-requires c =
    let back = sym (many c.args.k c.args.l c.requires.3) in (
      c.requires.2,
      subst (λ (m : ℕ). m * 2 ^ c.args.k ≤ 65536) back (all c.args.k c.args.l c.requires.3),
      c.requires.4,
      c.first-read.ensures.1,
      omega (arith, many c.args.k c.args.l c.requires.3, eight c.args.k c.args.l c.requires.3),
    )

-- the first k signals
first_signals : (at : List ℕ) (k : ℕ) (r : Signals) → (r.at ≡ at) × (r.count ≡ k)
    → signals_of r ≡ list_of k (λ j. get_or at j 0)
first_signals at k r h = ap₂ (λ (l : List ℕ) (m : ℕ). list_of m (λ j. get_or l j 0)) h.0 h.1

pub loop-stand-init : goal.loop-stand-init
loop-stand-init c =
    let a = c.args in
    let read = first_signals a.l.at a.k c.first-read.result c.first-read.ensures in
    begins a.k a.n a.l a.t.now c.requires.3 c.cofactor_cells.result _ (many a.k a.l c.requires.3)
    (c.cofactor_cells.ensures.0 ∙ ap (λ (l : List ℕ). list_of (1 * 2 ^ (a.l.count - a.k) % 2 ^ 32) (part_cell l a.t.now a.k)) read)
    c.cofactor_cells.ensures.1 c.requires.0 (omega (arith, c.requires.2))

pub one_level-stand-requires : goal.one_level-stand-requires
one_level-stand-requires c =
    let q = c.loop-stand in
    (c.requires.1, q.invariant.1, omega (arith, c.loop-stand-test.true))

pub loop-stand-preserved : goal.loop-stand-preserved
loop-stand-preserved c =
    let q = c.loop-stand in
    (c.one_level-stand.ensures.cells ∙ q.invariant.0, c.one_level-stand.ensures.room)

pub returns : goal.returns
returns c =
    let q = c.loop-stand in
    let a = c.args in
    let d = cells_of q.stand.sheet in
    sym (append-nil d) ∙ ap (λ (l : List Cell). d ++ l) (sym (none_left a.k a.l q.stand
    (omega (arith, c.loop-stand-test.false)))) ∙ q.invariant.0

pub overflow_cast-left : goal.overflow_cast-left
overflow_cast-left c = omega (arith, c.args.l.few)

pub overflow_sub-left : goal.overflow_sub-left
overflow_sub-left c = omega (arith, c.requires.3.more)

pub overflow_shl-many : goal.overflow_shl-many
overflow_shl-many c = omega (arith, three c.args.k c.args.l c.requires.3)

pub overflow_cast-stand : goal.overflow_cast-stand
overflow_cast-stand c = omega (arith, c.requires.0)

pub overflow_add-stand : goal.overflow_add-stand
overflow_add-stand c =
    omega (arith, c.requires.0, many c.args.k c.args.l c.requires.3, eight c.args.k c.args.l c.requires.3)

pub overflow_cast-stand-2 : goal.overflow_cast-stand-2
overflow_cast-stand-2 c =
    omega (arith, c.requires.0, many c.args.k c.args.l c.requires.3, eight c.args.k c.args.l c.requires.3)

pub loop-stand-smaller : goal.loop-stand-smaller
loop-stand-smaller c = omega (arith, c.one_level-stand.ensures.fewer)
