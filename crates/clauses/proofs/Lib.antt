-- Why the clauses that the code reads are those that are meant.
pub mod Sizes
pub mod Lengths
pub mod Rows
pub mod Swapping
pub mod Naming
