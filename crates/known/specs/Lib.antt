-- What is known of a table.
pub mod Notes
