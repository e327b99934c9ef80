-- `store_at` meets its contract: each return is one part of the load's order. Assumes nothing.
use native.Mathlib.Omega.{arith}
use Rattle.cards.proofs.Order.{store_first, store_place, store_status, store_last}
use Rattle.cards.proofs.stores.store_at.Goals as goal

pub returns-then-i-eq0 : goal.returns-then-i-eq0
returns-then-i-eq0 c = let a = c.args in store_first a.d a.n a.s.now a.i c.if-i-eq0.true

pub returns-then-i-le-BYTES : goal.returns-then-i-le-BYTES
returns-then-i-le-BYTES c =
    let a = c.args in
    store_place a.d a.n a.s.now a.i c.place_byte.result (omega arith) (omega arith)
    c.place_byte.ensures

pub returns-then-i-lt-DESK : goal.returns-then-i-lt-DESK
returns-then-i-lt-DESK c =
    let a = c.args in
    store_status a.d a.n a.s.now a.i c.status_byte.result (omega arith) (omega arith)
    c.status_byte.ensures

pub returns : goal.returns
returns c = let a = c.args in store_last a.d a.n a.s.now a.i (omega arith)
