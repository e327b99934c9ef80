-- What a formula is worth, and its values in stretches.
pub mod Formula
pub mod Stretches
