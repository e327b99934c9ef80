-- The line on a named split's sets.
pub mod Sets
