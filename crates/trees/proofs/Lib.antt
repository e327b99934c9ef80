-- The laws of trees. Graft: trees put in place of a tree's inputs. Prune: what does not count need not be read. Small:
-- the smallest trees. Members, Over: trees over the inputs that are kept. Pairs: a split of cells of two inputs.
-- Putting, Fixing: a tree of H makes one of F, and the other way round. Two: two inputs as a mask. Shape, Splits: a
-- tree of which two inputs count joins two, and with three that count it has a split. Trees: with K = 2, stuck exactly
-- where there is no tree.
pub mod Graft
pub mod Prune
pub mod Members
pub mod Small
pub mod Over
pub mod Pairs
pub mod Putting
pub mod Fixing
pub mod Two
pub mod Shape
pub mod Splits
pub mod Trees
