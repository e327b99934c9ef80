-- The laws of reading columns.
pub mod Reading
pub mod ByWords
pub mod Places
pub mod Looking
pub mod Breaking
