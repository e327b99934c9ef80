-- What running a sheet returns; with the first edition, or a told one.
pub mod RunSheet
pub mod RunTold
