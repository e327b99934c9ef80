-- The tree that a formula is.
pub mod TreeOf
