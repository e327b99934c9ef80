-- Which signals are read, as a mask.
pub mod ReadMasks
