-- The laws of the bound. Once: where fewer two-input cells than inputs that count carry a table, some tree computes it.
-- Two: one and two cells, as the search tells them. Reaching: the least number of cells that reach so many inputs.
-- Bound: what is computed is the bound. Sound: what the bound says of networks and of sheets. Found: what the code
-- finds, in these words.
pub mod Once
pub mod Two
pub mod Reaching
pub mod Bound
pub mod Sound
pub mod Found
