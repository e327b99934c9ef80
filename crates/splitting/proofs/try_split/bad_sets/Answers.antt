-- `bad_sets` meets its contract: each return is one of the reasons of line 5. Assumes nothing.
use mathlib.Core.Path.{◌≡◌, sym, ap₂, ◌∙◌}
use mathlib.Core.Bool.{false, not, ◌&&◌}
use Prim.Native.Nat.{ℕ, ◌+◌, ◌^◌, ◌<◌}
use native.Mathlib.Omega.{arith}
use lib.Dec.{leb, ltb}
use lib.Pow.{pow_mono}
use borrow.Author.Tests.{eq-eqb, ne_eqb}
use Rattle.bits.specs.Numbers.{bit}
use Rattle.bits.proofs.Machine.{shl_one}
use Rattle.bits.proofs.Disjoint.{disjoint-and}
use Rattle.bits.proofs.Sizes.{size-le}
use Rattle.tables.specs.Table.{most_inputs}
use Rattle.splits.specs.Columns.{most_first}
use Rattle.splitting.proofs.Sets.{bad-first, high_own, high_shared, overlap, few_own, by_sizes}
use Rattle.splitting.proofs.try_split.bad_sets.Lts as lts
use Rattle.splitting.proofs.try_split.bad_sets.Reads as reads
use Rattle.splitting.proofs.try_split.bad_sets.Tie as tie
use Rattle.splitting.proofs.try_split.bad_sets.Goals as goal

pub returns-then-outside : goal.returns-then-outside
returns-then-outside c =
    let a = c.args in
    sym (bad-first a.n a.k a.r a.own a.shared (sym c.outside.ensures ∙ c.if-outside.true))

-- r is 1 to 3
good_first : (c : lts.Else1 tie.the-claims reads.Pre reads.Post) → not (leb 1 c.args.r && leb c.args.r most_first)
    ≡ false
good_first c = sym c.outside.ensures ∙ c.if-outside.false

pub returns-then-all-own : goal.returns-then-all-own
returns-then-all-own c =
    let a = c.args in
    sym (high_own a.n a.k a.r a.own a.shared (good_first c.before)
    (omega (arith, c.if-all-own.true, shl_one 64 a.n (omega arith))))

pub returns-then-all-shared : goal.returns-then-all-shared
returns-then-all-shared c =
    let a = c.args in
    let p = shl_one 64 a.n (omega arith) in
    sym (high_shared a.n a.k a.r a.own a.shared (good_first c.before.before) (omega arith)
    (omega (arith, c.if-all-shared.true)))

pub returns-then-own-shared-ne0 : goal.returns-then-own-shared-ne0
returns-then-own-shared-ne0 c =
    let a = c.args in
    let p = shl_one 64 a.n (omega arith) in
    let l : a.own < 2 ^ a.n = omega arith in
    sym (overlap a.n a.k a.r a.own a.shared (good_first c.before.before.before) l (omega arith)
    (disjoint-and a.n a.own a.shared l ∙ ne_eqb _ 0 c.if-own-shared-ne0.true))

pub overflow_cast-own : goal.overflow_cast-own
overflow_cast-own c =
    let a = c.args in
    omega (arith, shl_one 64 a.n (omega arith), pow_mono {i = a.n} {j = most_inputs} c.requires)

pub returns-then-many-r : goal.returns-then-many-r
returns-then-many-r c =
    let a = c.args in
    let p = shl_one 64 a.n (omega arith) in
    let l : a.own < 2 ^ a.n = omega arith in
    sym (few_own a.n a.k a.r a.own a.shared (good_first c.before.before.before.before.before) l (omega arith)
    (disjoint-and a.n a.own a.shared l ∙ eq-eqb _ 0 c.if-own-shared-ne0.false)
    (omega (arith, c.members-many.ensures a.n l, c.if-many-r.true)))

pub overflow_cast-shared : goal.overflow_cast-shared
overflow_cast-shared c =
    let a = c.args in
    omega (arith, shl_one 64 a.n (omega arith), pow_mono {i = a.n} {j = most_inputs} c.requires)

pub overflow_add-result : goal.overflow_add-result
overflow_add-result c =
    let a = c.args in
    let p = shl_one 64 a.n (omega arith) in
    omega (
      arith,
      c.members-many.ensures a.n (omega arith),
      c.members.ensures a.n (omega arith),
      size-le a.n (bit a.own),
      size-le a.n (bit a.shared),
    )

pub returns : goal.returns
returns c =
    let m = c.members-many in
    let a = c.args in
    let p = shl_one 64 a.n (omega arith) in
    let l : a.own < 2 ^ a.n = omega arith in
    let h : a.shared < 2 ^ a.n = omega arith in
    ap₂ (λ (i j : ℕ). ltb a.k (i + j)) (m.ensures a.n l) (c.members.ensures a.n h)
    ∙ sym (by_sizes a.n a.k a.r a.own a.shared (good_first c.before.before.before.before.before.before) l h
    (disjoint-and a.n a.own a.shared l ∙ eq-eqb _ 0 c.if-own-shared-ne0.false)
    (omega (arith, m.ensures a.n l, c.if-many-r.false)))
