-- What a walk knows.
pub mod Known
