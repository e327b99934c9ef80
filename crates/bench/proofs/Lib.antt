-- The laws of making a sheet: what form and room let through, what is written of a chain, and what a result says.
pub mod Ready
pub mod Written
pub mod Made
