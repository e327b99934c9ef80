-- The output's times are the least and the greatest along all paths.
pub mod Along
pub mod Ordered
pub mod Whole
pub mod Rounded
