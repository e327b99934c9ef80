-- What is kept in mind stays true.
pub mod Keeping
