-- What making a sheet, in the first edition or a told one, returns and leaves behind.
pub mod Refusals
pub mod MakeSheet
pub mod MakeTold
