-- A sheet of one edition written in another.
pub mod Rewrite
