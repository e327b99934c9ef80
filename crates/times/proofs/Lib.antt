-- The laws of times.
pub mod Zero
pub mod Sums
pub mod Counting
pub mod Telling
pub mod Passing
pub mod Exact
