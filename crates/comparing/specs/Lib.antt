-- What is said of two sheets, and which is kept.
pub mod Shorter
