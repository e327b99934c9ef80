-- Networks of m cells, brought into order. Values: the signals' values. Padding, Using: as many cells as are allowed,
-- each but the last read. Turning, Exchanging: inputs read in each other's place. Columns, Sums, Sorting: the lower of
-- two inputs that can change places is read first.
pub mod Values
pub mod Padding
pub mod Using
pub mod Turning
pub mod Exchanging
pub mod Columns
pub mod Sums
pub mod Sorting
