-- `load_store` meets its contract: one store, and none past the last. Assumes nothing.
use mathlib.Core.Path.{◌≡◌, sym, ap, ◌∙◌}
use mathlib.Core.List.{List}
use Prim.Native.Nat.{ℕ, ◌+◌, ◌-◌}
use native.Mathlib.Omega.{arith}
use lib.ListN.{take, drop, drop_of_length-le}
use Rattle.cards.specs.declared.stores.Store.{Store}
use Rattle.cards.specs.Stores.{load_stores}
use Rattle.cards.specs.LoadDesk.{part_outcome}
use Rattle.cards.proofs.Order.{length_load}
use Rattle.loads.proofs.load_store.load_store.Goals as goal

pub returns-then-which : goal.returns-then-which
returns-then-which c =
    let a = c.args in
    let none = drop_of_length-le (load_stores a.d a.n a.s.now) {i = a.which}
    (omega (arith, length_load a.d a.n a.s.now, c.if-which.true)) in
    c.load_part.ensures ∙ ap (λ (ts : List Store). part_outcome (take 1 ts) a.card.now a.d a.n a.s.now)
    (sym none)

pub returns : goal.returns
returns c =
    let a = c.args in
    let one : a.which + 1 - a.which ≡ 1 = omega arith in
    c.load_part-2.ensures
    ∙ ap (λ (k : ℕ). part_outcome (take k (drop a.which (load_stores a.d a.n a.s.now))) a.card.now a.d
    a.n a.s.now) one
