-- Setting aside, the sheet of cofactors and clearing, in turn. Assumes nothing.
use mathlib.Core.Path.{◌≡◌, sym, ap, ap₂, ◌∙◌, subst}
use mathlib.Core.List.{List}
use Prim.Native.Nat.{ℕ, ◌<◌, ◌^◌}
use native.Mathlib.Omega.{arith}
use lib.ListN.{replicate}
use Rattle.bits.specs.Numbers.{bit}
use Rattle.tables.specs.Table.{table_bit}
use Rattle.tables.proofs.Keeping.{kept-lt}
use Rattle.tables.proofs.Work.{half-holds}
use Rattle.chains.specs.Chain.{pick, inputs}
use Rattle.cofactors.specs.Chosen.{Near}
use Rattle.making.specs.declared.signals.Signals.{Signals}
use Rattle.making.specs.Stage.{signals_of}
use Rattle.making.proofs.Halves.{half_whole}
use Rattle.selectors.proofs.Choosing.{count, kept_cells}
use Rattle.selectors.proofs.several.cofactors_of.Goals as goal

pub set_aside-requires : goal.set_aside-requires
set_aside-requires c =
    let a = c.args in (
      c.requires.le_n.4,
      c.requires.le_n.1,
      subst (λ (m : ℕ). m < 2 ^ a.n) (sym c.requires.mask_value.0) (kept-lt a.n (table_bit a.t.now) c.requires.le_n.0),
      omega (arith, c.requires.le_n.4, c.requires.le_n.5, half-holds a.n c.requires.le_n.1),
    )

-- the signals are those that are kept
picked : (n m : ℕ) (s r : Signals) → signals_of r ≡ pick s.count (bit m) (signals_of s) → signals_of s ≡ inputs n
    → s.count ≡ n → signals_of r ≡ pick n (bit m) (inputs n)
picked n m s r e f g = e ∙ ap₂ (λ (k : ℕ) (l : List ℕ). pick k (bit m) l) g f

pub slice_bounds-cofactor_sheet-end-2 : goal.slice_bounds-cofactor_sheet-end-2
slice_bounds-cofactor_sheet-end-2 c =
    sym (half_whole c.set_aside.new.room (omega (arith, c.set_aside.auto.room, c.requires.le_n.5)))

pub cofactor_sheet-sheet-requires : goal.cofactor_sheet-sheet-requires
cofactor_sheet-sheet-requires c =
    let a = c.args in
    let h = c.requires.le_n in
    let r = c.pick-signals.result in
    let signals = picked a.n a.mask c.inputs.result r c.pick-signals.ensures c.inputs.ensures.0 c.inputs.ensures.1 in (
      h.1,
      h.2,
      h.3,
      subst (Near a.k) (sym (count a.n a.k (table_bit a.t.now) a.mask r signals)) c.requires.mask_value.1,
      half_whole c.set_aside.new.room (omega (arith, c.set_aside.auto.room, h.5)),
    )

pub returns : goal.returns
returns c =
    let a = c.args in
    let r = c.pick-signals.result in
    let signals = picked a.n a.mask c.inputs.result r c.pick-signals.ensures c.inputs.ensures.0 c.inputs.ensures.1 in (
      c.cofactor_sheet-sheet.ensures
          ∙ kept_cells a.n a.k (table_bit a.t.now) a.mask r signals c.set_aside.new.room c.requires.le_n.1
          c.set_aside.ensures,
      c.clear.ensures ∙ ap (λ (m : ℕ). replicate m 0) c.set_aside.auto.room,
    )
