-- The rule of the book.
pub mod Entries
pub mod Printed
