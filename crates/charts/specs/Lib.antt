-- The tables of the first cells as they are handed back.
pub mod Cells
