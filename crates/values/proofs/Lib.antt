-- The operators on words of values.
pub mod Bitwise
