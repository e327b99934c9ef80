-- The sheet of cofactors as the code holds it.
pub mod Standing
