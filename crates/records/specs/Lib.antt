-- What a look at a sheet says.
pub mod Look
