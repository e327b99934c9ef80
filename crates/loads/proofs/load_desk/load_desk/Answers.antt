-- `load_desk` meets its contract: the stores up to the last are all. Assumes nothing.
use mathlib.Core.Path.{ap, ◌∙◌}
use mathlib.Core.List.{List}
use native.Mathlib.Nat.{le_of_eq}
use lib.Seq.{take_all}
use Rattle.cards.specs.declared.stores.Store.{Store}
use Rattle.cards.specs.Stores.{load_stores, store_count}
use Rattle.cards.specs.LoadDesk.{part_outcome}
use Rattle.cards.proofs.Order.{length_load}
use Rattle.loads.proofs.load_desk.load_desk.Goals as goal

pub returns : goal.returns
returns c =
    let a = c.args in
    c.load_part.ensures
    ∙ ap (λ (ts : List Store). part_outcome ts a.card.now a.d a.n a.s.now)
    (take_all store_count (load_stores a.d a.n a.s.now) (le_of_eq (length_load a.d a.n a.s.now)))
