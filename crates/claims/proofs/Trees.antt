-- Make with K = 2 finds every tree of two-input nodes, over any edition and desk. That each sheet it then writes has
-- the fewest cells is `made_pairs` (Fewest). Assumes nothing.
use mathlib.Core.Path.{◌≡◌, ap}
use mathlib.Core.Logic.{◌↔◌}
use mathlib.Core.Bool.{Bool}
use mathlib.Core.List.{List}
use Prim.Native.Nat.{ℕ, ◌^◌, ◌<◌, ◌≤◌}
use native.Mathlib.Omega.{arith}
use Rattle.bits.specs.Numbers.{bit}
use Rattle.tables.specs.Table.{table_bit}
use Rattle.tables.specs.Depends.{DependsOn}
use Rattle.sheets.specs.declared.kinds.Edition.{Edition}
use Rattle.sheets.specs.Network.{Cell}
use Rattle.chains.specs.Chain.{made}
use Rattle.chains.proofs.Aside.{sheet_stuck}
use Rattle.trees.specs.Tree.{Tree, constant, input, flipped, value, uses, TreeOf}
use Rattle.trees.proofs.Prune.{pruned}
use Rattle.trees.proofs.Small.{constant_tree, input_tree}
use Rattle.trees.proofs.Trees.{made_tree, tree_made, stuck_treeless}
use Rattle.refusals.specs.Verdicts.{Fine}
use Rattle.refusals.specs.Lines.{InOrder, number_of}
use Rattle.bench.specs.MakeSheet.{sheet_for, make_form, make_outcome}
use Rattle.bench.proofs.Ready.{ready}
use Rattle.claims.proofs.Made.{is_made, not_stuck}
use Rattle.claims.proofs.MakeSheet.{made_blocked, blocked_refused}

module _ (e : Edition) (d n : ℕ) (t sheet work : List ℕ) (form : InOrder (make_form e d n 2 t sheet work)) where
  some : 1 ≤ n
  some = (ready e d n 2 t sheet work form).gate.some

  -- form and room in order, make with K = 2 is refused as 8 exactly when no tree of two-input nodes reads each of the
  -- inputs that count once and computes the table (`stuck_treeless`, trees)
  pub refused_treeless : (number_of (make_outcome e d n 2 t sheet work).answer.verdict ≡ 8)
      ↔ ((u : Tree) → TreeOf n (table_bit t) u → ⊥)
  refused_treeless =
      let stuck_blocked = sheet_stuck n 2 (table_bit t) some (omega arith) in
      let treeless = stuck_treeless n (table_bit t) some in (
        λ h. treeless.0 (stuck_blocked.1 (made_blocked e d n 2 t sheet work h)),
        λ never. blocked_refused e d n 2 t sheet work form (stuck_blocked.0 (treeless.1 never)),
      )

  -- and done exactly when there is one (`made_tree`, `tree_made`, trees)
  pub done_tree : ((make_outcome e d n 2 t sheet work).answer.verdict ≡ Fine) ↔ ((u : Tree) × TreeOf n (table_bit t) u)
  done_tree = (
    λ done. let w = is_made e d n 2 t sheet work done in made_tree n (table_bit t) some w.cells w.chain,
    λ w. go (tree_made n (table_bit t) some w.0 w.1),
  )
    where
      go : (cs : List Cell) × (sheet_for n 2 t ≡ made cs) → (make_outcome e d n 2 t sheet work).answer.verdict ≡ Fine
      go m = ap (λ o. o.answer.verdict) (not_stuck e d n 2 t sheet work form m.0 m.1).0.outcome

  -- refused: there is none either that also reads inputs that do not count, as often as it likes (`pruned`, trees)
  pub treeless_whatever_read : number_of (make_outcome e d n 2 t sheet work).answer.verdict ≡ 8 → (u : Tree)
      → ((j : ℕ) → j < n → DependsOn n (table_bit t) j → uses j u ≡ 1)
      → ((x : ℕ) → x < 2 ^ n → value u (bit x) ≡ table_bit t x) → ⊥
  treeless_whatever_read h u once computes =
      let w = pruned n (table_bit t) u once computes in refused_treeless.0 h w.0 w.1

-- a constant counts as a tree, and so does a table with just one input that counts, plain or flipped
pub constants_are_trees : (n : ℕ) (F : ℕ → Bool) (b : Bool) → ((x : ℕ) → x < 2 ^ n → F x ≡ b) → TreeOf n F (constant b)
constants_are_trees = constant_tree

pub inputs_are_trees : (n : ℕ) (F : ℕ → Bool) (j : ℕ) → j < n → (f : Bool)
    → ((x : ℕ) → x < 2 ^ n → F x ≡ flipped f (bit x j))
    → TreeOf n F (input f j)
inputs_are_trees = input_tree
