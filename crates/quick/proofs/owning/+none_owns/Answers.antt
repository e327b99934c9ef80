-- The cycle of calls {none_owns}, whose position falls: an own set has the position, or has not. Assumes nothing.
use mathlib.Core.Path.{◌≡◌, ap}
use Prim.Native.Nat.{ℕ, ◌-◌, ◌*◌, ◌%◌, ◌^◌, ◌<◌, ◌≤◌}
use native.Mathlib.Omega.{arith}
use lib.Bits.{bit_or, or_lt}
use lib.Pow.{pow-lt}
use Rattle.bits.proofs.Machine.{shl_one}
use Rattle.tables.specs.Table.{most_inputs}
use Rattle.quick.proofs.Taking.{owns_big, owns_leaf, owns_next}
use Rattle.quick.proofs.owning.+none_owns.Goals as goal

-- the position that is left out or taken in
one : (n p : ℕ) → n ≤ most_inputs → p ≤ n → 0 < p → 1 * 2 ^ (p - 1) % 65536 ≡ 2 ^ (p - 1)
one n p most within some = shl_one 16 (p - 1) (omega arith)

-- there are not so many positions
pub returns-then-left-p : goal.returns-then-left-p
returns-then-left-p t c e = owns_big _ _ (omega (arith, c.if-left-p.true))

-- the own mask is made
pub returns-then-left-eq0 : goal.returns-then-left-eq0
returns-then-left-eq0 t c e = owns_leaf _ _ (c.dead_own.ensures e)

-- without the position
pub none_owns-requires : goal.none_owns-requires
none_owns-requires t c =
    let h = c.requires in
    (omega (arith, c.decreases, c.if-left-p.false, c.if-left-eq0.false), (h.0, h.1, h.2, h.3, h.4, omega (arith, h.5)))

-- with it
pub none_owns-requires-then-none_owns : goal.none_owns-requires-then-none_owns
none_owns-requires-then-none_owns t c =
    let a = c.args in
    let h = c.requires in
    let d : 0 < a.p = omega (arith, c.if-left-p.false, c.if-left-eq0.false) in (
      omega (arith, c.decreases, d),
      (
        h.0,
        h.1,
        h.2,
        h.3,
        or_lt a.n a.acc _ h.4 (omega (
          arith,
          one a.n a.p h.0 h.5 d,
          pow-lt {i = a.p - 1} {j = a.n} (omega (arith, d, h.5)),
        )),
        omega (arith, h.5),
      ),
    )

pub returns-then-none_owns : goal.returns-then-none_owns
returns-then-none_owns t c e =
    let a = c.args in
    let h = c.requires in
    let d : 0 < a.p = omega (arith, c.if-left-p.false, c.if-left-eq0.false) in
    owns_next (a.p - 1) a.p a.left _ (omega (arith, d)) (ap (bit_or a.acc) (one a.n a.p h.0 h.5 d))
    (c.none_owns.ensures c.if-none_owns.true) (c.none_owns-then-none_owns.ensures e)
