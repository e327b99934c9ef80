-- The loop keeps the number that the first i bytes make. Assumes nothing.
use mathlib.Core.Path.{◌≡◌, refl, ap, ◌∙◌}
use Prim.Native.Nat.{ℕ, ◌+◌, ◌*◌}
use native.Mathlib.Omega.{arith}
use Rattle.bits.specs.Numbers.{number}
use Rattle.tables.specs.Table.{table_bit}
use Rattle.tables.proofs.Joining.{byte-joined, byte_fits}
use Rattle.tables.proofs.words.joined.Goals as goal

pub loop-i-init : goal.loop-i-init
unfolding number
loop-i-init c = (omega arith, refl)

pub returns : goal.returns
returns c =
    let q = c.loop-i in
    let e : q.i ≡ c.args.count = omega arith in
    q.invariant.1 ∙ ap (λ (i : ℕ). number (8 * i) (λ k. table_bit c.args.t.now
    (8 * c.args.from + k))) e

pub overflow_add-r-in-loop-i : goal.overflow_add-r-in-loop-i
overflow_add-r-in-loop-i c =
    let a = c.args in
    let q = c.loop-i in
    omega (arith, byte_fits a.t.now a.from q.i (omega arith) (omega (arith, c.type_inv.t (a.from + q.i))) q.invariant.1)

pub loop-i-preserved : goal.loop-i-preserved
loop-i-preserved c =
    let a = c.args in
    let q = c.loop-i in (
      omega arith,
      byte-joined a.t.now a.from q.i (omega arith) (omega (arith, c.type_inv.t (a.from + q.i))) q.invariant.1,
    )
