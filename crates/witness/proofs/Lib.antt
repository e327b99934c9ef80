-- The law of witnesses, and its instances by few bits and by words.
pub mod Law
pub mod Members
pub mod Points
pub mod Corners
pub mod Many
