-- The table itself where all inputs are kept, and else packed. Assumes nothing.
use mathlib.Core.Path.{◌≡◌, ap, ◌∙◌}
use mathlib.Core.Bool.{Bool}
use mathlib.Core.List.{List, ◌++◌}
use Prim.Native.Nat.{ℕ, ◌+◌, ◌-◌, ◌^◌, ◌≤◌}
use native.Mathlib.Omega.{arith}
use lib.ListN.{length, drop}
use lib.Pow.{pow_mono, pow_pos}
use Rattle.bits.specs.Numbers.{bit, number}
use Rattle.bits.specs.Sets.{size, spread}
use Rattle.bits.proofs.Machine.{shl_one}
use Rattle.bits.proofs.Sizes.{size-le}
use Rattle.tables.specs.Table.{table_length, table_bit, bytes_of}
use Rattle.tables.proofs.Bytes.{length-holds}
use Rattle.tables.proofs.Setting.{packed_over, whole_over}
use Rattle.tables.proofs.aside.set_aside.Goals as goal

pub overflow_sub-all : goal.overflow_sub-all
overflow_sub-all c =
    omega
    (arith, shl_one 32 c.args.n (omega (arith, c.requires.1)), pow_pos c.args.n)

pub returns-then-mask-all : goal.returns-then-mask-all
returns-then-mask-all c =
    let a = c.args in
    let t = a.t.now in
    let full : a.mask + 1 ≡ 2 ^ a.n = omega (
      arith,
      c.if-mask-all.true,
      shl_one 32 a.n (omega (arith, c.requires.1)),
      pow_pos a.n,
    ) in
    ap (λ (r : List ℕ). number (2 ^ size a.n (bit a.mask)) (table_bit r))
    (ap (λ (l : List ℕ). l ++ drop (length t) a.room.now) c.copy_from_slice.ensures.after)
    ∙ whole_over a.n a.mask t (drop (length t) a.room.now) full c.requires.0

-- as many bytes as the table over the inputs has
few : (n mask k : ℕ) → k ≡ size n (bit mask) → k ≤ n
few n mask k e = omega (arith, size-le n (bit mask))

pub length_for-requires : goal.length_for-requires
length_for-requires c =
    let a = c.args in
    omega (arith, few a.n a.mask c.members.result (c.members.ensures a.n c.requires.2), c.requires.1)

pub pack-requires : goal.pack-requires
pack-requires c =
    let a = c.args in
    let k = c.members.result in
    let len = c.length_for.ensures in
    let most = few a.n a.mask k (c.members.ensures a.n c.requires.2) in (
      omega (arith, c.requires.0, length-holds a.n),
      c.requires.1,
      c.requires.2,
      omega (arith, len, pow_mono {i = k - 3} {j = 16} (omega (arith, most, c.requires.1))),
      omega (arith, len, pow_mono {i = k - 3} {j = a.n - 3} (omega (arith, most)), c.requires.0, c.requires.3),
    )

pub returns : goal.returns
returns c =
    let a = c.args in
    let F : ℕ → Bool = λ v. table_bit a.t.now (spread a.n (bit a.mask) v) in
    let len = c.length_for.ensures ∙ ap table_length (c.members.ensures a.n c.requires.2) in
    ap (λ (r : List ℕ). number (2 ^ size a.n (bit a.mask)) (table_bit r))
    (c.pack.ensures ∙ ap (λ (k : ℕ). bytes_of k F ++ drop k a.room.now) len)
    ∙ packed_over a.n a.mask a.t.now (drop (table_length (size a.n (bit a.mask))) a.room.now)
