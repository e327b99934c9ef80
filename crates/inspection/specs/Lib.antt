-- What the check of a sheet against a table says.
pub mod CheckSheet
pub mod CheckTold
