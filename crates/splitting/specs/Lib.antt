-- What trying a named split returns and leaves behind; in the first edition, or a told one.
pub mod TrySplit
pub mod TryTold
