-- The laws of what the code that makes a sheet holds.
pub mod Halves
pub mod Picking
pub mod Listing
pub mod Piling
pub mod Following
pub mod Loaded
