-- The ways to turn one three-input table into another, and their order.
pub mod Ways
pub mod Listing
pub mod Turn
pub mod Reach
