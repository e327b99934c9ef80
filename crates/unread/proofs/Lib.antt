-- The law of the masks of signals that are read.
pub mod ReadMasks
