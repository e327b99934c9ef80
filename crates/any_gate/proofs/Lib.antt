-- The laws of make_any's answer.
pub mod Answers
