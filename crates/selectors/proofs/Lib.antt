-- The laws of the sheet of cofactors as the code holds it. Parts, Cells: a part of a table, a table of one word.
-- Widths, Standing, Starting: the levels. Piles: cells put on a sheet. Choosing: the chain or the cofactors.
pub mod Parts
pub mod Cells
pub mod Widths
pub mod Piles
pub mod Standing
pub mod Starting
pub mod Choosing
