-- By K and by how many signals select. Assumes nothing.
use mathlib.Core.Path.{◌≡◌, refl, sym, ap, ap₂, ◌∙◌}
use mathlib.Core.Logic.{◌⊎◌, ⊎_elim}
use mathlib.Core.Bool.{Bool}
use mathlib.Core.List.{List, [], ◌∷◌, ◌++◌}
use Prim.Native.Nat.{ℕ, ◌+◌, ◌*◌, ◌<◌, ◌≤◌}
use native.Mathlib.Omega.{arith}
use lib.ListN.{get_or}
use borrow.Author.Tests.{le-leb, lt-leb}
use Rattle.bits.proofs.Lists.{list_at}
use Rattle.sheets.specs.Network.{Cell}
use Rattle.sheets.specs.Edition.{unused_place}
use Rattle.sheets.specs.Held.{cells_of}
use Rattle.cofactors.specs.Cofactors.{selecting}
use Rattle.making.specs.declared.signals.Signals.{Signals}
use Rattle.making.specs.Stage.{signals_of}
use Rattle.selectors.specs.declared.select.Stand.{Stand}
use Rattle.selectors.specs.Standing.{spaced, from}
use Rattle.selectors.proofs.Piles.{one_more}
use Rattle.selectors.proofs.Cells.{three_cells_lem, of_two, of_four}
use Rattle.selectors.proofs.Widths.{some_width, each_three, each_one, near_by}
use Rattle.selectors.proofs.select.select.Goals as goal

-- how far a signal to select from is
here : {step x : ℕ} → step ≤ 3 → x ≤ 8 → step * x ≤ 33
here h g = near_by _ _ h (omega arith)

far : {step x : ℕ} → step ≤ 3 → x ≤ 8 → (t : ℕ) → t ≤ 3 → step * (x + t) ≤ 33
far h g t l = near_by _ _ h (omega arith)

-- a place is the list's
listed : (l : Signals) (j : ℕ) → j < l.count → get_or l.at j 0 ≡ get_or (signals_of l) j 0
listed l j h = sym (list_at l.count (λ j. get_or l.at j 0) j 0 h)

-- the first of those that select
within : {at w k c : ℕ} → at + w ≤ c → (w ≡ 1) ⊎ ((w ≡ 2) × (3 ≤ k)) → at < c
within h f = omega (arith, some_width f)

-- two select where one does not
two : {w k : ℕ} → (w ≡ 1) ⊎ ((w ≡ 2) × (3 ≤ k)) → (w ≡ 1 → ⊥) → w ≡ 2
two f h = ⊎_elim (λ e. absurd (h e)) (λ e. e.0) f

-- the cells that are meant
abbrev chosen : Stand → Signals → ℕ → Bool → ℕ → List Cell
chosen s l x b w = selecting b w s.next (from (signals_of l) s.at) (λ t. spaced s.base s.step (x + t))

pub bounds-l-s : goal.bounds-l-s
bounds-l-s c = omega (arith, within c.requires.2 c.requires.1, c.args.l.few, c.args.l.places)

pub by_three-requires : goal.by_three-requires
by_three-requires c =
    (omega (arith, c.requires.0, each_three c.args.k c.if-k-lt3.true), c.requires.3.next)

pub returns-then-k-lt3 : goal.returns-then-k-lt3
returns-then-k-lt3 c =
    let a = c.args in
    let s = a.s in
    let e = c.if-k-lt3.true in (
      c.by_three.ensures.0 ∙ ap (λ (l : List Cell). cells_of s.sheet ++ l)
          (three_cells_lem (signals_of a.l) s.next s.at s.base s.step a.x _
          (listed a.l s.at (within c.requires.2 c.requires.1))
          ∙ ap (λ (b : Bool). chosen s a.l a.x b a.w) (sym (lt-leb 3 a.k e))),
      omega (arith, c.by_three.ensures.1, each_three a.k e),
    )

pub with_cell-requires : goal.with_cell-requires
with_cell-requires c = omega (arith, c.requires.0, each_one c.args.k (omega (arith, c.if-k-lt3.false)))

pub returns-then-w-eq1 : goal.returns-then-w-eq1
returns-then-w-eq1 c =
    let a = c.args in
    let s = a.s in
    let u = unused_place in
    let h : 3 ≤ a.k = omega (arith, c.if-k-lt3.false) in (
      one_more c.with_cell.ensures refl c.word_cell.ensures
          ∙ ap (λ (l : List Cell). cells_of s.sheet ++ l)
          (of_two (signals_of a.l) s.next s.at s.base s.step a.x _
          (listed a.l s.at (within c.requires.2 c.requires.1)) (u ∷ u ∷ u ∷ u ∷ u ∷ [])
          ∙ ap₂ (chosen s a.l a.x) (sym (le-leb 3 a.k h)) (sym c.if-w-eq1.true)),
      omega (arith, c.with_cell.ensures.count, each_one a.k h),
    )

pub bounds-l-s-2 : goal.bounds-l-s-2
bounds-l-s-2 c =
    omega (arith, two c.requires.1 c.if-w-eq1.false, c.requires.2, c.args.l.few, c.args.l.places)

pub with_cell-requires-2 : goal.with_cell-requires-2
with_cell-requires-2 c = omega (arith, c.requires.0, each_one c.args.k (omega (arith, c.if-k-lt3.false)))

pub returns : goal.returns
returns c =
    let a = c.args in
    let s = a.s in
    let u = unused_place in
    let h : 3 ≤ a.k = omega (arith, c.if-k-lt3.false) in
    let e = two c.requires.1 c.if-w-eq1.false in (
      one_more c.with_cell-2.ensures refl c.word_cell-2.ensures
          ∙ ap (λ (l : List Cell). cells_of s.sheet ++ l)
          (of_four (signals_of a.l) s.next s.at s.base s.step a.x _
          (listed a.l s.at (within c.requires.2 c.requires.1)) _
          (listed a.l (s.at + 1) (omega (arith, e, c.requires.2))) (u ∷ u ∷ [])
          ∙ ap₂ (chosen s a.l a.x) (sym (le-leb 3 a.k h)) (sym e)),
      omega (arith, c.with_cell-2.ensures.count, each_one a.k h),
    )

pub overflow_mul-a : goal.overflow_mul-a
overflow_mul-a c = omega (arith, here c.requires.3.step c.requires.4)

pub overflow_add-a : goal.overflow_add-a
overflow_add-a c = omega (arith, here c.requires.3.step c.requires.4, c.requires.3.base)

pub overflow_mul-b : goal.overflow_mul-b
overflow_mul-b c = omega (arith, far c.requires.3.step c.requires.4 1 (omega arith))

pub overflow_add-b-2 : goal.overflow_add-b-2
overflow_add-b-2 c = omega (arith, far c.requires.3.step c.requires.4 1 (omega arith), c.requires.3.base)

pub overflow_mul-c : goal.overflow_mul-c
overflow_mul-c c = omega (arith, far c.requires.3.step c.requires.4 2 (omega arith))

pub overflow_add-c-2 : goal.overflow_add-c-2
overflow_add-c-2 c = omega (arith, far c.requires.3.step c.requires.4 2 (omega arith), c.requires.3.base)

pub overflow_mul-d : goal.overflow_mul-d
overflow_mul-d c = omega (arith, far c.requires.3.step c.requires.4 3 (omega arith))

pub overflow_add-d-2 : goal.overflow_add-d-2
overflow_add-d-2 c = omega (arith, far c.requires.3.step c.requires.4 3 (omega arith), c.requires.3.base)
