-- The search over the inputs that count, and own inputs that no split has.
pub mod Counted
pub mod Owning
