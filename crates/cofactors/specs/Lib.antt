-- The sheet of cofactors, and the sheet for any gate.
pub mod Cofactors
pub mod Chosen
pub mod Any
