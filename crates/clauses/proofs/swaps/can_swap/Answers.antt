-- `can_swap` meets its contract: two columns are asked about, then two others. Assumes nothing.
use mathlib.Core.Path.{ap, ◌∙◌}
use Prim.Native.Nat.{ℕ, ◌^◌}
use native.Mathlib.Omega.{arith}
use lib.Pow.{pow_mono, pow_pos}
use Rattle.tables.specs.Table.{table_bit}
use Rattle.tables.proofs.Bytes.{length-holds}
use Rattle.clauses.proofs.Swapping.{low_bit, high_bit, both-lt, none_shared, apart_x, apart_y, apart_none, apart-both, told_yes, told_no}
use Rattle.clauses.proofs.swaps.can_swap.Goals as goal

pub overflow_add-one : goal.overflow_add-one
overflow_add-one c =
    omega (arith, both-lt _ _ _ _ _ c.requires.2 c.requires.3 (low_bit c.requires.0 c.requires.2 c.requires.3) (high_bit c.requires.0 c.requires.3), pow_mono {i = c.args.n} {j = 16} c.requires.0)

pub overflow_cast-one : goal.overflow_cast-one
overflow_cast-one c =
    omega (arith, both-lt _ _ _ _ _ c.requires.2 c.requires.3 (low_bit c.requires.0 c.requires.2 c.requires.3) (high_bit c.requires.0 c.requires.3), pow_mono {i = c.args.n} {j = 16} c.requires.0)

pub of-s-requires : goal.of-s-requires
of-s-requires c =
    (c.requires.0, both-lt _ _ _ _ _ c.requires.2 c.requires.3 (low_bit c.requires.0 c.requires.2 c.requires.3) (high_bit c.requires.0 c.requires.3), pow_pos c.args.n, none_shared _ _ _ _ _ c.requires.2 c.requires.3 (low_bit c.requires.0 c.requires.2 c.requires.3) (high_bit c.requires.0 c.requires.3))

pub same_column-requires : goal.same_column-requires
same_column-requires c =
    record { starts = (apart_x _ _ _ _ _ c.requires.2 c.requires.3 (low_bit c.requires.0 c.requires.2 c.requires.3) (high_bit c.requires.0 c.requires.3) c.of-s.result c.of-s.ensures.0 c.of-s.ensures.1 c.of-s.ensures.2 c.of-s.ensures.3, apart_y _ _ _ _ _ c.requires.2 c.requires.3 (low_bit c.requires.0 c.requires.2 c.requires.3) (high_bit c.requires.0 c.requires.3) c.of-s.result c.of-s.ensures.0 c.of-s.ensures.1 c.of-s.ensures.2 c.of-s.ensures.3); n_bound = omega (arith, length-holds c.args.n, c.requires.1, ap (λ (m : ℕ). 2 ^ m) c.of-s.ensures.1) }

pub returns-then-same_column : goal.returns-then-same_column
returns-then-same_column c =
    c.if-same_column.true ∙ told_yes _ _ _ _ _ c.requires.2 c.requires.3 (low_bit c.requires.0 c.requires.2 c.requires.3) (high_bit c.requires.0 c.requires.3) c.of-s.result c.of-s.ensures.0 c.of-s.ensures.1 c.of-s.ensures.2 c.of-s.ensures.3 (table_bit c.args.t.now) c.same_column.ensures c.if-same_column.true

pub overflow_add-one-else-same_column : goal.overflow_add-one-else-same_column
overflow_add-one-else-same_column c =
    omega (arith, both-lt _ _ _ _ _ c.requires.2 c.requires.3 (low_bit c.requires.0 c.requires.2 c.requires.3) (high_bit c.requires.0 c.requires.3), pow_mono {i = c.args.n} {j = 16} c.requires.0)

pub same_column-requires-else-same_column : goal.same_column-requires-else-same_column
same_column-requires-else-same_column c =
    record { starts = (apart_none _ _ _ _ _ c.requires.2 c.requires.3 (low_bit c.requires.0 c.requires.2 c.requires.3) (high_bit c.requires.0 c.requires.3) c.of-s.result c.of-s.ensures.0 c.of-s.ensures.1 c.of-s.ensures.2 c.of-s.ensures.3, apart-both _ _ _ _ _ c.requires.2 c.requires.3 (low_bit c.requires.0 c.requires.2 c.requires.3) (high_bit c.requires.0 c.requires.3) c.of-s.result c.of-s.ensures.0 c.of-s.ensures.1 c.of-s.ensures.2 c.of-s.ensures.3); n_bound = omega (arith, length-holds c.args.n, c.requires.1, ap (λ (m : ℕ). 2 ^ m) c.of-s.ensures.1) }

pub returns-else-same_column : goal.returns-else-same_column
returns-else-same_column c =
    told_no _ _ _ _ _ c.requires.2 c.requires.3 (low_bit c.requires.0 c.requires.2 c.requires.3) (high_bit c.requires.0 c.requires.3) c.of-s.result c.of-s.ensures.0 c.of-s.ensures.1 c.of-s.ensures.2 c.of-s.ensures.3 (table_bit c.args.t.now) c.same_column.ensures c.if-same_column.false c.same_column-else-same_column.ensures
