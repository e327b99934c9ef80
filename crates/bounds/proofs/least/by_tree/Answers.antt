-- `by_tree` meets its contract: whether there is a tree tells what the chain comes to. Assumes nothing.
use native.Mathlib.Omega.{arith}
use Rattle.bits.proofs.Bools.{clash}
use Rattle.tables.specs.Table.{table_bit}
use Rattle.tables.proofs.Bytes.{length-holds}
use Rattle.bounds.proofs.Found.{tree_chain, treeless_chain}
use Rattle.bounds.proofs.least.by_tree.Goals as goal

pub is_tree-requires : goal.is_tree-requires
is_tree-requires c =
    (c.requires.1, omega (arith, length-holds c.args.n, c.requires.2), c.requires.4.is)

pub returns-then-is_tree : goal.returns-then-is_tree
returns-then-is_tree c =
    tree_chain c.args.n c.args.counting.many (table_bit c.args.t.now) c.requires.0
    (c.is_tree.ensures.0 c.if-is_tree.true)

pub returns : goal.returns
returns c =
    treeless_chain c.args.n c.args.counting.many (table_bit c.args.t.now) c.requires.0
    (λ w. clash (c.is_tree.ensures.1 w) c.if-is_tree.false)
