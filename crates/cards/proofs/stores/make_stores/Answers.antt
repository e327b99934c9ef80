-- `make_stores` meets its contract: after each turn of the loop one more store of the load is made. Assumes nothing.
use mathlib.Core.Path.{◌≡◌, refl, ap, ◌∙◌}
use Prim.Native.Nat.{ℕ, ◌-◌}
use native.Mathlib.Omega.{arith}
use lib.ListN.{take, drop, length-set}
use borrow.Author.Rules.{rules}
use Rattle.cards.specs.declared.stores.Store.{Store}
use Rattle.cards.specs.Stores.{load_stores, store_at, stored}
use Rattle.cards.proofs.Order.{made_next, on_card}
use Rattle.cards.proofs.stores.make_stores.Goals as goal

pub loop-i-init : goal.loop-i-init
loop-i-init c =
    let a = c.args in
    let none : 0 ≡ a.first - a.first = omega arith in (
      refl,
      ap (λ (k : ℕ). stored
          (take k (drop a.first (load_stores a.d a.n a.s.now))) a.card.now) none,
    )

pub store_at-place-requires : goal.store_at-place-requires
store_at-place-requires c = search rules

pub bounds-card-place : goal.bounds-card-place
bounds-card-place c =
    let a = c.args in
    let h = on_card a.d a.n a.s.now c.loop-i.i (omega arith) (omega arith) (omega arith) in
    let p : c.store_at-place.result.place ≡ (store_at a.d a.n a.s.now c.loop-i.i).place = ap
    (λ (t : Store). t.place) c.store_at-place.ensures in
    omega (arith, h, p, c.loop-i.invariant.0)

pub loop-i-preserved : goal.loop-i-preserved
loop-i-preserved c =
    let a = c.args in
    let t = c.store_at-place.result in (
      length-set c.loop-i.card t.place t.byte ∙ c.loop-i.invariant.0,
      made_next a.d a.n a.s.now a.card.now c.loop-i.card t a.first c.loop-i.i (omega arith)
          (omega arith) c.store_at-place.ensures c.loop-i.invariant.1,
    )

pub returns : goal.returns
returns c =
    let a = c.args in
    let e : c.loop-i.i ≡ a.end = omega arith in
    c.loop-i.invariant.1
    ∙ ap (λ (k : ℕ). stored (take (k - a.first) (drop a.first (load_stores a.d a.n a.s.now)))
    a.card.now) e
