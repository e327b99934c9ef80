-- The laws of the best split over r. First: the first over r of whatever works. Best: alone, and over the inputs that
-- count. Fewer, Counts: each output of a first cell is one that H asks for. Sparing: what cannot be the best may be
-- left out. Choosing, Spread: what the code holds.
pub mod First
pub mod Best
pub mod Fewer
pub mod Counts
pub mod Sparing
pub mod Choosing
pub mod Spread
