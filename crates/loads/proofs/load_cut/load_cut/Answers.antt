-- `load_cut` meets its contract: a cut past the last store cuts nothing off. Assumes nothing.
use mathlib.Core.Path.{◌≡◌, sym, ap, ◌∙◌}
use mathlib.Core.List.{List}
use Prim.Native.Nat.{ℕ, ◌-◌}
use native.Mathlib.Nat.{le_of_eq}
use native.Mathlib.Omega.{arith}
use lib.ListN.{take}
use lib.Seq.{take_all}
use Rattle.cards.specs.declared.stores.Store.{Store}
use Rattle.cards.specs.Stores.{load_stores, store_count}
use Rattle.cards.specs.LoadDesk.{part_outcome}
use Rattle.cards.proofs.Order.{length_load}
use Rattle.loads.proofs.load_cut.load_cut.Goals as goal

pub returns-then-stores : goal.returns-then-stores
returns-then-stores c =
    let a = c.args in
    let l = load_stores a.d a.n a.s.now in
    c.load_part.ensures
    ∙ ap (λ (ts : List Store). part_outcome ts a.card.now a.d a.n a.s.now)
    (take_all store_count l (le_of_eq (length_load a.d a.n a.s.now))
    ∙ sym (take_all a.stores l (omega (
      arith,
      length_load a.d a.n a.s.now,
      c.if-stores.true,
    ))))

pub returns : goal.returns
returns c =
    let a = c.args in
    let all : a.stores - 0 ≡ a.stores = omega arith in
    c.load_part-2.ensures
    ∙ ap (λ (k : ℕ). part_outcome (take k (load_stores a.d a.n a.s.now)) a.card.now a.d a.n
    a.s.now) all
