-- The laws of the two programs.
pub mod BenchProgram
pub mod InspectProgram
