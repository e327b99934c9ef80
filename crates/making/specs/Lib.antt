-- What the code that makes a sheet holds and promises: its signals, its work area, its cells, and the chain.
pub mod Stage
pub mod Area
pub mod Pile
pub mod Chaining
