-- A lower bound on the cells of a table: what it means, how it is found, and the call.
pub mod Bound
pub mod Least
pub mod BoundCells
