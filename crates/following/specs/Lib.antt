-- When a step of kind 0 is in order: its literals and hints exist, and it follows.
pub mod Values
pub mod Following
pub mod Standing
pub mod Opened
