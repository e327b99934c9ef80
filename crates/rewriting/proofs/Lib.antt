-- The laws of a sheet that is written in another edition.
pub mod Holding
pub mod Widened
