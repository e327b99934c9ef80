-- The laws of ways.
pub mod Bits
pub mod Listed
pub mod Group
