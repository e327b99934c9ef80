-- What the two programs write.
pub mod BenchProgram
pub mod InspectProgram
