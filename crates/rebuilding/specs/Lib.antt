-- What rebuilding a sheet's table returns and leaves behind; with the first edition, or a told one.
pub mod RebuildTable
pub mod RebuildTold
