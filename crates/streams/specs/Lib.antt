-- What a writer is handed.
pub mod Handed
