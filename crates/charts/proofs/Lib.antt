-- The laws of reading a split's answer off a chart of columns.
pub mod Codes
pub mod Charts
pub mod Last
pub mod LastWords
pub mod HeldCells
pub mod Charting
