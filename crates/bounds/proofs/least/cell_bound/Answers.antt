-- `cell_bound` meets its contract: few inputs count, or whether there is a tree tells, or the best split. Assumes
-- nothing.
use mathlib.Core.Path.{sym, ap, ◌∙◌}
use Prim.Native.Nat.{ℕ, ◌^◌}
use native.Mathlib.Omega.{arith}
use Rattle.bits.specs.Numbers.{number}
use Rattle.tables.specs.Table.{table_bit}
use Rattle.best.specs.Counting.{best_counting}
use Rattle.chains.specs.Aside.{sheet_aside}
use Rattle.bounds.specs.Least.{by_split, by_chain}
use Rattle.bounds.proofs.Bound.{least_few, least-chain, least_split}
use Rattle.bounds.proofs.least.cell_bound.Goals as goal

pub returns-then-counting-k : goal.returns-then-counting-k
returns-then-counting-k c =
    let a = c.args in
    let w = c.counting_inputs-counting.ensures in (
      sym (least_few a.n a.k (table_bit a.t.now) (omega (arith, w.count, c.if-counting-k.true))),
      c.clear.ensures,
    )

pub by_tree-requires : goal.by_tree-requires
by_tree-requires c =
    let p = c.requires in
    (p.0, p.1, p.4, omega (arith, c.if-counting-k.false, c.if-k-eq2.true), c.counting_inputs-counting.ensures)

pub returns-then-k-eq2 : goal.returns-then-k-eq2
returns-then-k-eq2 c =
    let a = c.args in
    let F = table_bit a.t.now in
    let is = c.counting_inputs-counting.ensures.count in (
      c.by_tree.ensures ∙ ap (λ (i : ℕ). by_chain i (sheet_aside a.n 2 (number (2 ^ a.n) F))) is
          ∙ sym (least-chain a.n a.k F (omega (arith, is, c.if-counting-k.false)) c.if-k-eq2.true),
      c.clear-then-k-eq2.ensures,
    )

pub returns : goal.returns
returns c =
    let a = c.args in
    let F = table_bit a.t.now in
    let is = c.counting_inputs-counting.ensures.count in (
      c.by_split.ensures.0 ∙ ap (λ (i : ℕ). by_split a.n a.k i (best_counting a.n 1 F a.k)) is
          ∙ sym (least_split a.n a.k F (omega (arith, is, c.if-counting-k.false)) c.if-k-eq2.false),
      c.by_split.ensures.1,
    )
