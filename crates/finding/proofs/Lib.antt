-- The laws of finding the best split: what form and room let through.
pub mod Ready
