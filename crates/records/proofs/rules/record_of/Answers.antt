-- `record_of` meets its contract: the part between two starts of records has a record's length. Assumes nothing.
use mathlib.Core.Path.{◌≡◌, ap}
use Prim.Native.Nat.{ℕ, ◌+◌, ◌-◌, ◌*◌}
use native.Mathlib.Omega.{arith}
use lib.ListN.{take, drop}
use Rattle.records.proofs.rules.record_of.Goals as goal

pub returns : goal.returns
returns c =
    let a = c.args in
    let at = a.e.size * a.i in
    let q : at + a.e.size - at ≡ a.e.size = omega arith in
    ap (λ (n : ℕ). take n (drop at a.s.now)) q
