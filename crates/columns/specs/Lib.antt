-- How the free inputs are read by words, what the code holds of a split while it reads columns, and where a split breaks.
pub mod ByWords
pub mod Reading
pub mod Broken
