-- `best::pair::attempt` meets its contract: the column test of the split that it makes is the test of `try_b`. Assumes
-- nothing.
use mathlib.Core.Path.{refl, sym, ◌∙◌, subst}
use mathlib.Core.Bool.{true, false}
use Prim.Native.Nat.{ℕ, ◌*◌, ◌^◌, ◌≤◌}
use native.Mathlib.Omega.{arith}
use lib.ListN.{length}
use lib.Pow.{pow_mono}
use Rattle.best.specs.Walk.{most_first}
use Rattle.tables.specs.Table.{table_bit}
use Rattle.bits.proofs.Machine.{shl_one}
use Rattle.best.proofs.Tries.{try_b_code}
use Rattle.best.proofs.pair.attempt.Goals as goal

pub few_columns-requires : goal.few_columns-requires
few_columns-requires c =
    let o = c.of.ensures in (
      omega (arith, shl_one 64 c.args.r (omega arith), pow_mono {i = c.args.r} {j = most_first} c.requires.r_le_most_first.0),
      subst (λ (n : ℕ). 2 ^ n ≤ 8 * length c.args.t.now) (sym o.1) c.requires.r_le_most_first.1,
    )

pub returns-then-few_columns : goal.returns-then-few_columns
returns-then-few_columns c =
    let a = c.args in
    let o = c.of.ensures in
    try_b_code a.n a.r (table_bit a.t.now) _ a.own a.shared _ _ _ _ o.1 o.2 o.3
    (shl_one 64 a.r (omega arith)) refl c.requires.n_le_most_inputs.3 true
    (sym c.if-few_columns.true ∙ c.few_columns.ensures)

pub returns : goal.returns
returns c =
    let a = c.args in
    let o = c.of.ensures in
    try_b_code a.n a.r (table_bit a.t.now) _ a.own a.shared _ _ _ _ o.1 o.2 o.3
    (shl_one 64 a.r (omega arith)) refl c.requires.n_le_most_inputs.3 false
    (sym c.if-few_columns.false ∙ c.few_columns.ensures)
