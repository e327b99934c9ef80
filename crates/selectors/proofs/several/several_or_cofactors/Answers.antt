-- The chain, and where it is asked for the sheet of cofactors beside it. Assumes nothing.
use mathlib.Core.Path.{◌≡◌, sym, ap, ◌∙◌, subst}
use mathlib.Core.Bool.{Bool}
use Prim.Native.Nat.{ℕ, ◌^◌, ◌<◌, ◌≤◌}
use native.Mathlib.Omega.{arith}
use lib.ListN.{replicate}
use Rattle.std.proofs.Common.{Some}
use Rattle.bits.specs.Numbers.{bit, number}
use Rattle.bits.specs.Sets.{size}
use Rattle.tables.specs.Table.{table_bit}
use Rattle.tables.specs.Counting.{kept, table_over}
use Rattle.tables.proofs.Keeping.{kept-lt}
use Rattle.splits.specs.Columns.{most_first}
use Rattle.chains.specs.Chain.{pick, inputs}
use Rattle.chains.specs.Aside.{cells_aside}
use Rattle.cofactors.specs.Cofactors.{cofactor_cells}
use Rattle.cofactors.specs.Chosen.{Near}
use Rattle.cofactors.proofs.Aside.{kept-made, kept_stuck}
use Rattle.selectors.proofs.Choosing.{tells_three, tells_alone, tells_both}
use Rattle.selectors.proofs.several.several_or_cofactors.Goals as goal

-- how many are kept
module _ (n : ℕ) (F : ℕ → Bool) (kept-mask many : ℕ) (some : 1 ≤ n) (is : kept-mask ≡ kept n F)
    (members : (m : ℕ) → kept-mask < 2 ^ m → many ≡ size m (bit kept-mask)) where
  these : many ≡ size n (bit kept-mask)
  these = members n (subst (λ (x : ℕ). x < 2 ^ n) (sym is) (kept-lt n F some))

  counted : many ≡ size n (bit (kept n F))
  counted = these ∙ ap (λ (x : ℕ). size n (bit x)) is

pub returns-then-few_cells : goal.returns-then-few_cells
returns-then-few_cells c =
    let a = c.args in (
      tells_three a.n a.k (table_bit a.t.now) c.requires.0 c.requires.2 c.chain_upto-chain.result
          (c.few_cells.ensures c.if-few_cells.true) c.chain_upto-chain.ensures.told,
      c.chain_upto-chain.ensures.cleared,
    )

pub returns-then-not-is_near : goal.returns-then-not-is_near
returns-then-not-is_near c =
    let a = c.args in
    let is = c.kept_of-kept.ensures in
    let many = counted a.n (table_bit a.t.now) c.kept_of-kept.result c.members.result c.requires.0 is c.members.ensures in (
      tells_alone a.n a.k (number (2 ^ a.n) (table_bit a.t.now)) c.chain_upto-chain.result
          (kept_stuck a.n a.k (table_bit a.t.now) c.requires.2 (λ w. c.is_near.ensures.1 c.if-not-is_near.true
          (subst (Near a.k) (sym many) w)))
          c.chain_upto-chain.ensures.told,
      c.chain_upto-chain.ensures.cleared,
    )

pub cofactors_of-cofactors-requires : goal.cofactors_of-cofactors-requires
cofactors_of-cofactors-requires c =
    let a = c.args in
    let p = c.requires in
    let is = c.kept_of-kept.ensures in
    let many = these a.n (table_bit a.t.now) c.kept_of-kept.result c.members.result p.0 is c.members.ensures in
    record {
      le_n = (p.0, p.1, p.2, p.3, p.4, omega (arith, p.5, c.chain_upto-chain.auto.work));
      mask_value = (is, subst (Near a.k) many (c.is_near.ensures.0 c.if-not-is_near.false));
    }

pub returns : goal.returns
returns c =
    let a = c.args in
    let T = number (2 ^ a.n) (table_bit a.t.now) in
    let F = table_bit a.t.now in
    let is = c.kept_of-kept.ensures in
    let many = counted a.n F c.kept_of-kept.result c.members.result c.requires.0 is c.members.ensures in
    let near = subst (Near a.k) many (c.is_near.ensures.0 c.if-not-is_near.false) in
    let cells = cofactor_cells a.k a.n (pick a.n (bit (kept a.n F)) (inputs a.n))
    (table_over a.n (bit (kept a.n F)) F) in (
      tells_both a.n a.k T (Some c.fewer.result) cells (kept-made a.n a.k F c.requires.2 near)
          (c.fewer.ensures (cells_aside most_first a.n a.k T) cells c.chain_upto-chain.ensures.told
          (c.cofactors_of-cofactors.ensures.0 ∙ ap (λ (x : ℕ). cofactor_cells a.k a.n (pick a.n (bit x) (inputs a.n))
          (table_over a.n (bit x) F)) is)),
      c.cofactors_of-cofactors.ensures.1 ∙ ap (λ (x : ℕ). replicate x 0) c.chain_upto-chain.auto.work,
    )
